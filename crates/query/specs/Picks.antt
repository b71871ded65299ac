-- Rows of a table by their places, and what a term says of a row that stands as a slot.
use Rattle.std.specs.Prelude.{◌≡◌, Bool, not, ◌&&◌, List, map, ℕ, ◌≤◌, ◌<◌, length, get_or, take, if◌then◌else◌}
use Rattle.meaning.specs.Base.{any}
use Rattle.meaning.specs.Covers.{Row, Pair, Term, constant, columns, match, no_match}
use Rattle.meaning.specs.Values.{agree}
use Rattle.meaning.specs.Processing.Queries.{cell, agree_on, holds}
use Rattle.slots.specs.declared.Slot.{Slot}
use Rattle.slots.specs.Slots.{blank}
use Rattle.room.specs.Room.{row_meant, live_rows, transition_in}
use Rattle.query.specs.declared.Picked.{Picked}
use Rattle.query.specs.declared.Pairs.{Pairs}
use Rattle.query.specs.Chosen.{rows_from}

-- the slots at the picked places of a table
unfoldable pub slots_of : List Slot → Picked → List Slot
slots_of l p = map (λ i. get_or l i blank) (take p.count p.places)

-- every picked place is one of the table's
pub record Within (l : List Slot) (p : Picked) : Type 0 where
  pub few : p.count ≤ 64
  pub inside : (j : ℕ) → j < p.count → get_or p.places j 0 < length l

-- the picked places are those of these slots
pub record PicksOut (l rows : List Slot) (p : Picked) : Type 0 where
  pub within : Within l p
  pub slots : slots_of l p ≡ rows

-- own row and source row agree on four pairs
unfoldable pub agree_on_four : Pairs → Row → Row → Bool
agree_on_four p own other =
    agree (cell own p.own0) (cell other p.other0)
    && (agree (cell own p.own1) (cell other p.other1)
    && (agree (cell own p.own2) (cell other p.other2) && agree (cell own p.own3) (cell other p.other3)))

-- they say the same as some pairs
pub record AsPairs (ps : List Pair) (p : Pairs) : Type 0 where
  pub each : (own other : Row) → agree_on_four p own other ≡ agree_on ps own other

-- a match of a row that stands as a slot holds, or its opposite
unfoldable pub match_holds : List ℕ → List Pair → ℕ → Bool → Slot → Bool
match_holds xs ps source negated e =
    if negated then not (any (agree_on ps (row_meant e)) (rows_from xs source)) else any (agree_on ps (row_meant e)) (rows_from xs source)

-- a term holds of a row that stands as a slot
unfoldable pub term_holds : List ℕ → Term → Slot → Bool
term_holds xs t e = holds (transition_in xs) (live_rows xs) (row_meant e) t

-- a match has one to four pairs
unfoldable pub FewPairs : Term → Type 0
FewPairs (constant k c v) = Unit {0}
FewPairs (columns k c d) = Unit {0}
FewPairs (match s ps) = (1 ≤ length ps) × (length ps ≤ 4)
FewPairs (no_match s ps) = (1 ≤ length ps) × (length ps ≤ 4)
