-- Text at the front of an output.
use Rattle.std.specs.Prelude.{◌≡◌, List, [], ◌∷◌, ◌++◌, map, ℕ, ◌+◌, ◌≤◌, length}
use Rattle.std.proofs.Math.Option.{some}
use Rattle.std.proofs.lemmas.List.Edits.{sets}
use Rattle.meaning.specs.Base.{in_front_of}
use Rattle.meaning.specs.Reading.{got, many, read_all}
use Rattle.meaning.specs.Covers.{Row, Image}
use Rattle.meaning.specs.ByteLayouts as ByteLayouts
use Rattle.meaning.specs.EntryPoints.{line, decimal, signed_decimal, row_lines}
use Rattle.words.specs.Words.{readable}
use Rattle.image.specs.Images.{first_row}

-- a text stands at the front of the output, which has room for it, later bytes are untouched, and its length is told
pub record Puts (before after text : List ℕ) (r : ℕ) : Type 0 where
  pub output : after ≡ in_front_of text before
  pub kept : length after ≡ length before
  pub ends : r ≡ length text
  pub fits : r ≤ length before

-- the lines of a run, from document 01's numbers of its outcome and reason, for the image that the bytes are
pub record PutsRun (before after image : List ℕ) (outcome reason count r : ℕ) : Type 0 where
  pub is : (m : Image) → read_all ByteLayouts.image image ≡ some m
      → Puts before after (line (decimal outcome) (map decimal (reason ∷ count ∷ m.next ∷ length m.rows ∷ [])) ++ row_lines m.rows) r

-- ---- For the functions behind them

-- a text of at most so many bytes is stored from a place on, and the place after it is told
pub record PutsAt (before after : List ℕ) (at most : ℕ) (text : List ℕ) (r : ℕ) : Type 0 where
  pub output : after ≡ sets before at text
  pub kept : length after ≡ length before
  pub ends : r ≡ at + length text
  pub near : r ≤ at + most

-- the line of a row: handle, table, four values
unfoldable pub row_line : Row → List ℕ
row_line r = line (decimal r.handle) (decimal r.table ∷ map signed_decimal r.values)

-- the slice is an image whose rows, no more than 64, stand one after another to its end
pub record RowsStand (s : List ℕ) (count : ℕ) : Type 0 where
  pub few : count ≤ 64
  pub read : many count ByteLayouts.row s first_row ≡ got (readable count ByteLayouts.row s first_row) (length s)
