-- The map of the working room, and what its tables mean.
use Rattle.std.specs.Prelude.{◌≡◌, true, List, [], ◌∷◌, map, ℕ, ◌+◌, ◌*◌, ◌≤◌, ◌<◌, ℤ, eqb, length, get_or, if◌then◌else◌}
use Rattle.std.proofs.Math.Option.{none}
use Rattle.meaning.specs.Values.{signed}
use Rattle.meaning.specs.Covers.{Row, Rule}
use Rattle.meaning.specs.RowOperations.{Effect, NetEffect, nothing, inserted, deleted, updated}
use Rattle.meaning.specs.Processing.TransitionTables.{Transition}
use Rattle.meaning.specs.Processing.Actions.{updated_row}
use Rattle.slots.specs.declared.Slot.{Slot}
use Rattle.slots.specs.Slots.{table_at, Stands}
use Rattle.room.specs.declared.Watch.{Watch}

-- ---- The map

abbrev pub NEXT : ℕ
NEXT = 0

abbrev pub LIVE : ℕ
LIVE = 4

abbrev pub INSERTED : ℕ
INSERTED = 1544

abbrev pub DELETED : ℕ
DELETED = 3084

abbrev pub NEW : ℕ
NEW = 4624

abbrev pub OLD : ℕ
OLD = 6164

abbrev pub CHOSEN : ℕ
CHOSEN = 7704

abbrev pub WORKED : ℕ
WORKED = 9244

abbrev pub WAITS : ℕ
WAITS = 10784

abbrev pub WAIT : ℕ
WAIT = 3076

abbrev pub STRETCH : ℕ
STRETCH = 60000

abbrev pub SPARE : ℕ
SPARE = 7704

abbrev pub END : ℕ
END = 63076

abbrev pub ROWS : ℕ
ROWS = 64

abbrev pub ENTRIES : ℕ
ENTRIES = 128

-- what waits for rule k stands there
abbrev pub wait_at : ℕ → ℕ
wait_at k = WAITS + WAIT * k

-- every table stands in its place
pub record Laid (xs : List ℕ) : Type 0 where
  pub long : END ≤ length xs
  pub live : Stands LIVE ROWS xs
  pub inserted : Stands INSERTED ROWS xs
  pub deleted : Stands DELETED ROWS xs
  pub new : Stands NEW ROWS xs
  pub old : Stands OLD ROWS xs
  pub chosen : Stands CHOSEN ROWS xs
  pub worked : Stands WORKED ROWS xs
  pub waits : (k : ℕ) → k < 16 → Stands (wait_at k) ENTRIES xs
  pub stretch : Stands STRETCH ENTRIES xs

-- ys has what xs has from lo up to, not including, hi
pub record Kept (lo hi : ℕ) (xs ys : List ℕ) : Type 0 where
  pub len : length ys ≡ length xs
  pub same : (i : ℕ) → lo ≤ i → i < hi → get_or ys i 0 ≡ get_or xs i 0

-- ---- What it means

-- a rule as far as what it looks out for says it: what wakes it, and its transition tables, ask no more
unfoldable pub watch_rule : Watch → Rule
watch_rule w =
    record {
      active = true;
      table = w.table;
      triggers = w.triggers;
      columns = w.columns;
      precedes = 0;
      condition = none;
      actions = [];
    }

-- a slot as a row
unfoldable pub row_meant : Slot → Row
row_meant e =
    record { handle = e.handle; table = e.table; values = signed e.v0 ∷ signed e.v1 ∷ signed e.v2 ∷ signed e.v3 ∷ [] }

unfoldable pub rows_meant : List Slot → List Row
rows_meant l = map row_meant l

-- each row with its values for the columns of a mask
unfoldable pub rows_with : ℕ → List Row → List (List ℤ) → List Row
rows_with mask [] vss = []
rows_with mask (r ∷ rs) [] = []
rows_with mask (r ∷ rs) (vs ∷ vss) = updated_row mask vs r ∷ rows_with mask rs vss

-- a slot as an effect: its kind is the specification's number
unfoldable pub effect_meant : Slot → Effect
effect_meant e =
    if eqb e.kind 1 then inserted e.table else
    if eqb e.kind 2 then deleted (row_meant e) else
    if eqb e.kind 3 then updated e.mask (row_meant e) else nothing

unfoldable pub entry_meant : Slot → ℕ × Effect
entry_meant e = (e.handle, effect_meant e)

unfoldable pub wait_meant : List Slot → NetEffect
wait_meant l = map entry_meant l

-- the live rows
unfoldable pub live_rows : List ℕ → List Row
live_rows xs = rows_meant (table_at xs LIVE)

-- the transition tables
unfoldable pub transition_in : List ℕ → Transition
transition_in xs =
    record {
      inserted_rows = rows_meant (table_at xs INSERTED);
      deleted_rows = rows_meant (table_at xs DELETED);
      new_updated = rows_meant (table_at xs NEW);
      old_updated = rows_meant (table_at xs OLD);
    }

-- what waits for rule k, as far as it was joined
unfoldable pub waits_in : List ℕ → ℕ → NetEffect
waits_in xs k = wait_meant (table_at xs (wait_at k))

-- what was done since
unfoldable pub stretch_in : List ℕ → NetEffect
stretch_in xs = wait_meant (table_at xs STRETCH)
