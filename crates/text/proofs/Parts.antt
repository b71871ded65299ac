-- Where the part at the front of bytes ends: with all that is left where its length is not there or says more, else where it says. An image
-- that can be read says its own length, whatever stands after it.
use mathlib.Core.Path.{◌≡◌, ap, ◌∙◌}
use mathlib.Core.List.{List, ◌++◌, append_assoc}
use mathlib.Core.Option.{some}
use Prim.Native.Nat.{ℕ, ◌+◌, ◌-◌, ◌≤◌, ◌<◌}
use native.Mathlib.Omega.{arith}
use lib.ListN.{length, drop, length-append}
use lib.Seq.{drop-append-le}
use Rattle.meaning.specs.Reading.{read_all}
use Rattle.meaning.specs.Covers.{Image}
use Rattle.meaning.specs.ByteLayouts as ByteLayouts
use Rattle.meaning.specs.ByteLayouts.{bytes4}
use Rattle.meaning.specs.EntryPoints.{first_part, part_end}
use Rattle.meaning.proofs.Parsing.{Spans, number32-reads, framed-got, read-all}
use Rattle.words.specs.Words.{Bytes, word32_at}
use Rattle.words.proofs.Laws.{number32-read, number32-short}

module _ (s : List ℕ) (bytes : Bytes s) where
  pub part-all : length s < 4 → length s ≡ first_part s
  unfolding first_part part_end
  part-all h = rw (number32-short s bytes 0 (omega (arith, h)))

  pub part-more : 4 ≤ length s → length s - 4 < word32_at s 0 → length s ≡ first_part s
  unfolding first_part part_end
  part-more h m = rw (number32-read s bytes 0 (omega (arith, h))) (omega (arith, h, m))

  pub part-told : 4 ≤ length s → word32_at s 0 ≤ length s - 4 → 4 + word32_at s 0 ≡ first_part s
  unfolding first_part part_end
  part-told h m = rw (number32-read s bytes 0 (omega (arith, h))) (omega (arith, h, m))

-- an image that can be read ends where its length says, whatever stands after it
pub part-image : (s rest : List ℕ) (m : Image) → read_all ByteLayouts.image s ≡ some m → first_part (s ++ rest) ≡ length s
unfolding ByteLayouts.image first_part part_end
part-image s rest m e =
    let f = framed-got _ s 0 (read-all _ s e).1 in
    let n = f.count in
    let front : drop 4 (s ++ rest) ≡ drop 4 s ++ rest = drop-append-le 4 s rest (omega (arith, f.accounts)) in
    let span : Spans (s ++ rest) 0 (bytes4 n) 4 = record {
      holds = ap (λ (xs : List ℕ). xs ++ rest) f.counted.holds ∙ append_assoc (bytes4 n) (drop 4 s) rest ∙ rw front;
      ends = f.counted.ends;
    } in
    rw (number32-reads.found f.small span) (omega (arith, f.accounts, length-append s rest))
