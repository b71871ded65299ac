-- What is read of the working room for an output, and what an image that was read is as an output.
use Rattle.std.specs.Prelude.{◌≡◌, List, ℕ, ◌<◌, get_or}
use Rattle.std.proofs.Math.Option.{some}
use Rattle.meaning.specs.Base.{in_front_of}
use Rattle.meaning.specs.Reading.{read_all}
use Rattle.meaning.specs.Covers.{Image}
use Rattle.meaning.specs.ByteLayouts as ByteLayouts
use Rattle.meaning.specs.ByteLayouts.{image_bytes}
use Rattle.words.specs.Words.{low32_at}
use Rattle.slots.specs.Slots.{table_at, blank}
use Rattle.room.specs.Room as Room
use Rattle.room.specs.Room.{NEXT, LIVE, live_rows}
use Rattle.image.specs.Images as Images
use Rattle.image.specs.declared.Row.{Row}

-- a row of an image is the live row i, its table a byte
pub record LiveRow (xs : List ℕ) (i : ℕ) (r : Row) : Type 0 where
  pub is : Images.row_meant r ≡ Room.row_meant (get_or (table_at xs LIVE) i blank)
  pub table : r.table < 256

-- what `put_image` leaves
abbrev pub PutsImage : (room before after : List ℕ) → Type 0
PutsImage room before after = after ≡ in_front_of (image_bytes (record { next = low32_at room NEXT; rows = live_rows room })) before

-- an accepted image that stands in the room as it was read is written back as its own bytes
abbrev pub WritesBack : Type 0
WritesBack =
    (s room before after : List ℕ) (m : Image) → read_all ByteLayouts.image s ≡ some m → low32_at room NEXT ≡ m.next
    → live_rows room ≡ m.rows → PutsImage room before after → after ≡ in_front_of s before
