-- The operations that a room that represents a state can make fit its image: an insert of a slot with the next handle where there is room,
-- a delete of a live slot, an update of one that changes only the columns of its mask. The row of a live slot is the image's.
use mathlib.Core.Path.{◌≡◌, refl, sym, ap, ◌∙◌}
use mathlib.Core.List.{List}
use Prim.Native.Nat.{ℕ, ◌≤◌, ◌<◌}
use native.Mathlib.Omega.{arith}
use lib.ListN.{length, get_or}
use Rattle.meaning.specs.Covers.{Image, last_handle}
use Rattle.meaning.specs.RowOperations.{inserts, deletes, updates}
use Rattle.meaning.specs.Processing.{State}
use Rattle.meaning.specs.Trace.{OnlyIn}
use Rattle.meaning.specs.Base.{no_element, an_element}
use Rattle.meaning.proofs.Parsing.{signed-fits}
use Rattle.meaning.specs.Made.{Proper, Fits, insert_fits, delete_fits, update_fits}
use Rattle.words.specs.Words.{low32_at}
use Rattle.slots.specs.declared.Slot.{Slot}
use Rattle.slots.specs.Slots.{table_at, blank}
use Rattle.slots.proofs.Frames.{Fits as SlotFits}
use Rattle.slots.proofs.Order.{find-there}
use Rattle.room.specs.Room.{NEXT, LIVE, ROWS, row_meant, live_rows}
use Rattle.room.specs.Represents.{Represents, Reached}
use Rattle.room.proofs.Live.{rows-length, live-sorted, found-row}

-- a slot whose fields fit and whose table is one of the four is a proper row
pub proper-slot : {e : Slot} → SlotFits e → e.table ≤ 3 → Proper (row_meant e)
unfolding row_meant
proper-slot {e} f t =
    record {
      table_fits = t;
      four = refl;
      in_range =
          an_element (signed-fits e.v0 f.v0)
          (an_element (signed-fits e.v1 f.v1)
          (an_element (signed-fits e.v2 f.v2)
          (an_element (signed-fits e.v3 f.v3) no_element)));
    }

pub live-length : {s : State} {xs tables : List ℕ} → Represents xs tables s
    → length (table_at xs LIVE) ≡ length s.image.rows
unfolding live_rows
live-length {xs = xs} p = sym (rows-length (table_at xs LIVE)) ∙ ap length p.rows

pub fits-insert : {s : State} {xs tables : List ℕ} → Represents xs tables s → (e : Slot) → e.handle ≡ low32_at xs NEXT
    → Proper (row_meant e) → length (table_at xs LIVE) < ROWS → low32_at xs NEXT < last_handle → Fits s.image (inserts (row_meant e))
unfolding row_meant
fits-insert p e q proper room left =
    insert_fits (q ∙ p.next) proper (omega (arith, live-length p)) (omega (arith, p.next))

module _ {start : Image} {s : State} {xs tables : List ℕ} (reached : Reached start s) (p : Represents xs tables s) where
  pub fits-delete : (i : ℕ) → i < length (table_at xs LIVE) → Fits s.image (deletes (row_meant (get_or (table_at xs LIVE) i blank)))
  unfolding row_meant
  fits-delete i b =
      let e = get_or (table_at xs LIVE) i blank in
      delete_fits (found-row reached p e.handle (find-there e.handle (table_at xs LIVE) i (live-sorted reached p) b refl))

  pub fits-update : {mask : ℕ} (i : ℕ) (new : Slot) → i < length (table_at xs LIVE)
      → OnlyIn mask (row_meant (get_or (table_at xs LIVE) i blank)) (row_meant new) → Proper (row_meant new)
      → Fits s.image (updates mask (row_meant (get_or (table_at xs LIVE) i blank)) (row_meant new))
  unfolding row_meant
  fits-update i new b only proper =
      let e = get_or (table_at xs LIVE) i blank in
      update_fits (found-row reached p e.handle (find-there e.handle (table_at xs LIVE) i (live-sorted reached p) b refl)) only proper
