-- What image, book and log share: the frame around their fields, and values in a row.
use Rattle.std.specs.Prelude.{Bool, ◌&&◌, List, ℕ, ◌+◌, ℤ, eqb, leb, length}
use Rattle.meaning.specs.Reading.{byte_at}
use Rattle.meaning.specs.ByteLayouts.{value}
use Rattle.words.specs.Words.{word32_at, readable}

-- the length accounts for the slice, and the version is 1
unfoldable pub well_framed : List ℕ → Bool
well_framed s = leb 4 (length s) && eqb (4 + word32_at s 0) (length s) && eqb (byte_at s 4) 1

-- n values from a place on
unfoldable pub values_at : List ℕ → ℕ → ℕ → List ℤ
values_at s n at = readable n value s at
