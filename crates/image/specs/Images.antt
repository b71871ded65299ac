-- What the image's decoders answer, and what its writers write.
use Rattle.std.specs.Prelude.{◌≡◌, Bool, false, List, [], ◌∷◌, ◌++◌, ℕ, leb, length, if◌then◌else◌, Option, Some, None}
use Rattle.std.proofs.Math.Option.{Option as Maybe, some}
use Rattle.meaning.specs.Reading.{Read, bad, got, read_all}
use Rattle.meaning.specs.Values.{signed}
use Rattle.meaning.specs.Covers.{Image}
use Rattle.meaning.specs.Covers as Covers
use Rattle.meaning.specs.ByteLayouts as ByteLayouts
use Rattle.meaning.specs.ByteLayouts.{rising, bytes2, bytes4}
use Rattle.words.specs.Words.{option_as, readable}
use Rattle.image.specs.declared.Row.{Row}
use Rattle.image.specs.declared.Head.{Head}

-- the row that is meant, its words as values
unfoldable pub row_meant : Row → Covers.Row
row_meant r =
    record { handle = r.handle; table = r.table; values = signed r.v0 ∷ signed r.v1 ∷ signed r.v2 ∷ signed r.v3 ∷ [] }

-- the row that is meant, read up to a place, or bad where its table is none
unfoldable pub row_or : Row → ℕ → Read Covers.Row
row_or r next = if leb r.table 3 then got (row_meant r) next else bad

-- the rows stand after the row count
abbrev pub first_row : ℕ
first_row = 11

-- the image that a head stands for: its rows are those that can be read
unfoldable pub image_meant : List ℕ → Head → Image
image_meant s h = record { next = h.next; rows = readable h.count ByteLayouts.row s first_row }

unfoldable pub image_or : List ℕ → Option Head → Maybe Image
image_or s = option_as (image_meant s)

-- the slice is a well-formed image, with this next handle and so many rows
pub record WellFormed (s : List ℕ) (next count : ℕ) : Type 0 where
  pub rows : List Covers.Row
  pub image : read_all ByteLayouts.image s ≡ some (record { next = next; rows = rows })
  pub counted : length rows ≡ count

-- what an answer tells of the slice, its row count too: a well-formed image, or nothing
abbrev pub Told : List ℕ → Option Head → Type 0
Told s None = Unit {0}
Told s (Some h) = WellFormed s h.next h.count

-- rows were read, and their handles rise
unfoldable pub rise_in : ℕ → ℕ → Read (List Covers.Row) → Bool
rise_in low high bad = false
rise_in low high (got rs next) = rising low high rs

-- the bytes before the rows: length, version, next handle, row count
unfoldable pub head_bytes : ℕ → ℕ → ℕ → List ℕ
head_bytes length next count = bytes4 length ++ (1 ∷ (bytes4 next ++ bytes2 count))
