-- What the steps of loading leave in the working room.
use Rattle.std.specs.Prelude.{◌≡◌, List, [], ◌∷◌, ◌++◌, ℕ, ◌+◌, ◌<◌}
use Rattle.meaning.specs.Reading.{got}
use Rattle.meaning.specs.Covers.{Row}
use Rattle.meaning.specs.ByteLayouts as ByteLayouts
use Rattle.words.specs.Words.{low32_at}
use Rattle.slots.specs.Slots.{table_at, Frame, Stands}
use Rattle.room.specs.Room.{LIVE, INSERTED, WAITS, STRETCH, END, ROWS, ENTRIES, wait_at, Laid, live_rows}

-- ---- Emptying

-- nothing waits for any rule, and nothing else changed
pub record NoneWaits (xs ys : List ℕ) : Type 0 where
  pub frame : Frame WAITS STRETCH xs ys
  pub stands : (k : ℕ) → k < 16 → Stands (wait_at k) ENTRIES ys
  pub empty : (k : ℕ) → k < 16 → table_at ys (wait_at k) ≡ []

-- every table stands, no row is live, nothing waits for any rule or was done since, and nothing but the tables changed
pub record Emptied (xs ys : List ℕ) : Type 0 where
  pub frame : Frame LIVE END xs ys
  pub laid : Laid ys
  pub live : table_at ys LIVE ≡ []
  pub waits : (k : ℕ) → k < 16 → table_at ys (wait_at k) ≡ []
  pub stretch : table_at ys STRETCH ≡ []

-- ---- A row

-- the live rows have one more at their end, the image's at a place, if one can be read there; and nothing else changed
pub record RowLoaded (s : List ℕ) (at : ℕ) (xs ys : List ℕ) : Type 0 where
  pub frame : Frame LIVE INSERTED xs ys
  pub stands : Stands LIVE ROWS ys
  pub size : low32_at ys LIVE ≡ low32_at xs LIVE + 1
  pub rows : (r : Row) (next : ℕ) → ByteLayouts.row s at ≡ got r next → live_rows ys ≡ live_rows xs ++ (r ∷ [])
