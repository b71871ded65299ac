-- Proper rows, sound images, and operations that fit an image one after another: what a layout admits, and what a run makes of it.
use Rattle.std.specs.Prelude.{◌≡◌, List, [], ◌∷◌, ℕ, ◌≤◌, ◌<◌, ℤ, length}
use Rattle.std.proofs.Math.Option.{some}
use Rattle.std.specs.Int.Signed.{mag}
use Rattle.meaning.specs.Base.{Each}
use Rattle.meaning.specs.Covers.{most_rows, last_handle, Row, Image}
use Rattle.meaning.specs.RowOperations.{RowOperation, inserts, deletes, updates, row_at, make}
use Rattle.meaning.specs.Trace.{OnlyIn}

-- each value is a signed 32-bit number
abbrev pub InRange : List ℤ → Type 0
InRange vs = Each (λ v. mag v ≤ 2147483647) vs

-- a table 0..3 and four values
pub record Proper (r : Row) : Type 0 where
  pub table_fits : r.table ≤ 3
  pub four : length r.values ≡ 4
  pub in_range : InRange r.values

-- proper rows by rising handle, above `low` and below `high`
pub data Rising (high : ℕ) : ℕ → List Row → Type 0 where
  no_row : {low : ℕ} → Rising high low []
  above : {low : ℕ} {r : Row} {rs : List Row} → low < r.handle → r.handle < high → Proper r → Rising high r.handle rs
      → Rising high low (r ∷ rs)

-- an image that a parser accepts
pub record Sound (m : Image) : Type 0 where
  pub some_next : 1 ≤ m.next
  pub next_fits : m.next ≤ last_handle
  pub rows_fit : length m.rows ≤ most_rows
  pub rises : Rising m.next 0 m.rows

-- a row is the live row of its handle
abbrev pub Live : List Row → Row → Type 0
Live rows r = row_at r.handle rows ≡ some r

-- an operation that may be made on an image
pub data Fits (m : Image) : RowOperation → Type 0 where
  -- an inserted row takes the next handle and is proper; there is room for it, and a handle left after it
  insert_fits : {r : Row} → r.handle ≡ m.next → Proper r → length m.rows < most_rows → m.next < last_handle → Fits m (inserts r)
  -- a deleted row is the live row of its handle
  delete_fits : {r : Row} → Live m.rows r → Fits m (deletes r)
  -- an old row is the live row of its handle; the new one is proper and differs from it only in the columns of the mask
  update_fits : {mask : ℕ} {old new : Row} → Live m.rows old → OnlyIn mask old new → Proper new → Fits m (updates mask old new)

-- operations that may be made on an image one after another
pub data Made : Image → List RowOperation → Type 0 where
  none : {m : Image} → Made m []
  more : {m : Image} {o : RowOperation} {os : List RowOperation} → Fits m o → Made (make o m) os → Made m (o ∷ os)

-- rows that are taken from an image: proper, live, by rising handle
pub data Taken (rows : List Row) : ℕ → List Row → Type 0 where
  none_taken : {low : ℕ} → Taken rows low []
  one_taken : {low : ℕ} {r : Row} {rs : List Row} → low < r.handle → Proper r → Live rows r → Taken rows r.handle rs
      → Taken rows low (r ∷ rs)
