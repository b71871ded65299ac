-- The working room at the start of a run.
use Rattle.std.specs.Prelude.{◌≡◌, List, [], ℕ, ◌<◌, length}
use Rattle.std.proofs.Math.Option.{some}
use Rattle.meaning.specs.Reading.{read_all}
use Rattle.meaning.specs.Covers.{Image}
use Rattle.meaning.specs.ByteLayouts as ByteLayouts
use Rattle.words.specs.Words.{low32_at}
use Rattle.slots.specs.Slots.{table_at}
use Rattle.room.specs.Room.{NEXT, STRETCH, END, wait_at, Laid, Kept, live_rows}

-- next handle and live rows are the start image's, nothing waits for any rule or was done since, and what stands past the tables stays
pub record Loaded (start : Image) (xs ys : List ℕ) : Type 0 where
  pub laid : Laid ys
  pub next : low32_at ys NEXT ≡ start.next
  pub rows : live_rows ys ≡ start.rows
  pub empty : (k : ℕ) → k < 16 → table_at ys (wait_at k) ≡ []
  pub stretch : table_at ys STRETCH ≡ []
  pub beyond : Kept END (length xs) xs ys

-- for the image that the bytes are
pub record Loads (s xs ys : List ℕ) : Type 0 where
  pub is : (start : Image) → read_all ByteLayouts.image s ≡ some start → Loaded start xs ys
