-- Byte layouts: how long an accepted image, book and log can be.
use Rattle.std.specs.Prelude.{◌≡◌, List, ℕ, ◌≤◌, length}
use Rattle.std.proofs.Math.Option.{some}
use Rattle.meaning.specs.Reading.{Parser, read_all}
use Rattle.meaning.specs.ByteLayouts
use Rattle.meaning.specs.EntryPoints.{accepted_book, judge_book}

-- what a layout admits has at most so many bytes, and something that it admits has as many
pub record Longest {A : Type 0} (layout : Parser A) (most : ℕ) : Type 0 where
  pub at_most : (s : List ℕ) (a : A) → read_all layout s ≡ some a → length s ≤ most
  pub longest : List ℕ
  pub value : A
  pub read : read_all layout longest ≡ some value
  pub reached : length longest ≡ most

pub record Lengths : Type 0 where
  pub image : Longest ByteLayouts.image 1355
  pub book : Longest ByteLayouts.book 5480
  pub log : Longest ByteLayouts.log 5639
  -- the longest book has no cycle either
  pub ordered : (order : List ℕ) × (judge_book book.longest ≡ accepted_book book.value order)
