-- What one row operation leaves in the working room.
use Rattle.std.specs.Prelude.{◌≡◌, List, ℕ, length}
use Rattle.words.specs.Words.{low32_at}
use Rattle.slots.specs.declared.Slot.{Slot}
use Rattle.slots.specs.Slots.{table_at}
use Rattle.room.specs.Room.{NEXT, LIVE, INSERTED, STRETCH, END, Laid, Kept}
use Rattle.room.specs.Joins.{join_slots}

-- The live rows and the next handle are these, an operation joined what was done since the last joining, and what stands between them, and
-- past the tables, stays.
pub record Turned (xs ys : List ℕ) (live : List Slot) (next : ℕ) (op : Slot) : Type 0 where
  pub laid : Laid ys
  pub rows : table_at ys LIVE ≡ live
  pub handle : low32_at ys NEXT ≡ next
  pub stretch : table_at ys STRETCH ≡ join_slots op (table_at xs STRETCH)
  pub between : Kept INSERTED STRETCH xs ys
  pub beyond : Kept END (length xs) xs ys
