-- How an operation joins what was done since the last joining, and how that joins what waits for the rules, slot by slot.
use Rattle.std.specs.Prelude.{◌≡◌, Bool, true, false, List, [], ◌∷◌, ℕ, ◌≤◌, ◌<◌, eqb, ltb, length, get_or, if◌then◌else◌}
use Rattle.std.specs.Int.Bits.{bit_or}
use Rattle.meaning.specs.RowOperations.{join_kind}
use Rattle.slots.specs.declared.Slot.{Slot}
use Rattle.slots.specs.Slots.{table_at, Sorted}
use Rattle.room.specs.Room.{NEXT, CHOSEN, STRETCH, END, ENTRIES, wait_at, Laid, Kept}

-- a slot with another kind and mask
unfoldable pub as_effect : ℕ → ℕ → Slot → Slot
as_effect kind mask e =
    record { handle = e.handle; kind = kind; mask = mask; table = e.table; v0 = e.v0; v1 = e.v1; v2 = e.v2; v3 = e.v3 }

-- what was before and what comes after it, of kind 0 where nothing is left
unfoldable pub joined_slot : ℕ → Slot → Slot → Slot
joined_slot k a b =
    if eqb k 2 then b else
    if eqb k 3 then as_effect 3 (bit_or a.mask b.mask) a else
    if eqb k 0 then as_effect 0 0 a else a

unfoldable pub join_slot : Slot → Slot → Slot
join_slot a b = joined_slot (join_kind a.kind b.kind) a b

unfoldable pub kept_slot : Slot → List Slot → List Slot
kept_slot e l = if eqb e.kind 0 then l else e ∷ l

-- an operation joins a table of what waits
unfoldable pub join_slots : Slot → List Slot → List Slot
join_slots op [] = op ∷ []
join_slots op (e ∷ l) =
    if ltb e.handle op.handle then e ∷ join_slots op l else
    if eqb e.handle op.handle then kept_slot (join_slot e op) l else op ∷ e ∷ l

-- of a stretch, what is on a table joins what waits for a rule on that table, one effect after another
unfoldable pub join_if : Bool → Slot → List Slot → List Slot
join_if true op l = join_slots op l
join_if false op l = l

unfoldable pub join_stretch : ℕ → List Slot → List Slot → List Slot
join_stretch table [] l = l
join_stretch table (op ∷ ops) l = join_stretch table ops (join_if (eqb op.table table) op l)

-- a table can take an operation
pub record Takes (op : Slot) (l : List Slot) : Type 0 where
  pub sorted : Sorted l
  pub fits : length (join_slots op l) ≤ ENTRIES

-- an operation can join what was done since the last joining
pub record Joinable (xs : List ℕ) (op : Slot) : Type 0 where
  pub laid : Laid xs
  pub takes : Takes op (table_at xs STRETCH)

-- A rule's own table is 0..3, and 4 stands for that of a rule that is not active. Where more than that stands there is no rule, and none
-- after it.
pub record RulesEnd (tables : List ℕ) : Type 0 where
  pub stays : (j k : ℕ) → j ≤ k → k < 16 → 4 < get_or tables j 0 → 4 < get_or tables k 0

-- what waits at a base then, for a rule on a table
abbrev pub settled_at : List ℕ → ℕ → ℕ → List Slot
settled_at xs base table = join_stretch table (table_at xs STRETCH) (table_at xs base)

-- what waits for each active rule can take what was done since
pub record Settleable (xs tables : List ℕ) : Type 0 where
  pub laid : Laid xs
  pub ended : RulesEnd tables
  pub rises : Sorted (table_at xs STRETCH)
  pub sorted : (k : ℕ) → k < 16 → get_or tables k 0 ≤ 3 → Sorted (table_at xs (wait_at k))
  pub fits : (k : ℕ) → k < 16 → get_or tables k 0 ≤ 3 → length (settled_at xs (wait_at k) (get_or tables k 0)) ≤ ENTRIES

-- it joined what waits for each of them, and nothing of it is left; next handle, live rows and transition tables stay
pub record AllSettled (xs ys tables : List ℕ) : Type 0 where
  pub laid : Laid ys
  pub waits : (k : ℕ) → k < 16 → get_or tables k 0 ≤ 3 → table_at ys (wait_at k) ≡ settled_at xs (wait_at k) (get_or tables k 0)
  pub none : table_at ys STRETCH ≡ []
  pub before : Kept NEXT CHOSEN xs ys
  pub beyond : Kept END (length xs) xs ys
