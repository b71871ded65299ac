-- What a row operation leaves in the working room.
use Rattle.std.specs.Prelude.{◌≡◌, List, [], ◌∷◌, ◌++◌, ℕ, suc, ◌+◌, ltb, get_or, set, if◌then◌else◌, Option, Some, None, Result, Ok, Err}
use Rattle.meaning.specs.Covers.{most_rows, last_handle}
use Rattle.words.specs.Words.{low32_at}
use Rattle.slots.specs.declared.Slot.{Slot}
use Rattle.slots.specs.Slots.{table_at, blank, remove_at}
use Rattle.room.specs.Room.{NEXT, LIVE}
use Rattle.room.specs.Joins.{as_effect, Joinable}
use Rattle.room.specs.Turned.{Turned}
use Rattle.rows.specs.declared.Reason.{Reason}
use Rattle.rows.specs.declared.Reason.TheVariants.{NoSuchRow, Full, HandlesUsedUp}

-- n rows more: reason 2 is tried before reason 3
unfoldable pub space_for : ℕ → ℕ → ℕ → Result (Unit {0}) Reason
space_for live next n =
    if ltb most_rows (live + n) then Err Full else if ltb last_handle (next + n) then Err HandlesUsedUp else Ok tt

-- the row with a handle, a table and the values of another
unfoldable pub row_of : ℕ → ℕ → Slot → Slot
row_of handle table e = record { handle = handle; kind = 0; mask = 0; table = table; v0 = e.v0; v1 = e.v1; v2 = e.v2; v3 = e.v3 }

-- the row that is inserted
unfoldable pub inserted_slot : List ℕ → ℕ → Slot → Slot
inserted_slot xs table e = row_of (low32_at xs NEXT) table e

abbrev pub Inserted : List ℕ → List ℕ → ℕ → Slot → Type 0
Inserted xs ys table e =
    Turned xs ys (table_at xs LIVE ++ (inserted_slot xs table e ∷ [])) (suc (low32_at xs NEXT)) (as_effect 1 0 (inserted_slot xs table e))

-- the operation of a row that was found
unfoldable pub operation_at : List ℕ → ℕ → ℕ → ℕ → Slot
operation_at xs kind mask i = as_effect kind mask (get_or (table_at xs LIVE) i blank)

-- where the row is found, the operation can join
abbrev pub CanJoin : List ℕ → ℕ → ℕ → Option ℕ → Type 0
CanJoin xs kind mask None = Unit {0}
CanJoin xs kind mask (Some i) = Joinable xs (operation_at xs kind mask i)

-- a delete: of the row that was found, or none was and nothing changed
abbrev pub Deleted : List ℕ → List ℕ → Option ℕ → Result (Unit {0}) Reason → Type 0
Deleted xs ys (Some i) (Ok t) = Turned xs ys (remove_at i (table_at xs LIVE)) (low32_at xs NEXT) (operation_at xs 2 0 i)
Deleted xs ys (Some i) (Err r) = ⊥
Deleted xs ys None (Ok t) = ⊥
Deleted xs ys None (Err r) = (r ≡ NoSuchRow) × (ys ≡ xs)

-- an update: another row in the place of the one that was found, or none was and nothing changed
abbrev pub Updated : List ℕ → List ℕ → ℕ → Slot → Option ℕ → Result (Unit {0}) Reason → Type 0
Updated xs ys mask new (Some i) (Ok t) = Turned xs ys (set (table_at xs LIVE) i new) (low32_at xs NEXT) (operation_at xs 3 mask i)
Updated xs ys mask new (Some i) (Err r) = ⊥
Updated xs ys mask new None (Ok t) = ⊥
Updated xs ys mask new None (Err r) = (r ≡ NoSuchRow) × (ys ≡ xs)
