-- Laws for decoders. A parser of one byte gives the byte that `words::byte` answered, or is bad, by whether the range admits it; a row source
-- is read where `terms::source_fits` admits it.
use Rattle.std.specs.Prelude.{if◌then◌else◌}
use mathlib.Core.Path.{◌≡◌, refl}
use mathlib.Core.Bool.{Bool, true, false, ◌||◌}
use mathlib.Core.List.{List}
use Prim.Native.Nat.{ℕ, ◌+◌, ◌≤◌, ◌<◌}
use native.Mathlib.Omega.{arith}
use borrow.Author.Tests.{eqb-true}
use lib.Dec.{eqb, ltb}
use Rattle.meaning.specs.Base.{bit}
use Rattle.meaning.specs.Reading.{bad, got, pure, malformed, byte_within}
use Rattle.meaning.specs.Covers.{Source}
use Rattle.meaning.specs.ByteLayouts.{column, source_of}
use Rattle.words.specs.Words.{Peeked}
use Rattle.words.proofs.Laws.{split, byte-within-yes, byte-within-high}
use Rattle.terms.specs.Terms.{source_meant, source_fits}

-- ---- A byte that was looked at, as it is read

module _ {s : List ℕ} {at r : ℕ} (l : Peeked s at r) where
  pub looked-within : (lo hi : ℕ) → lo ≤ r → r ≤ hi → byte_within lo hi s at ≡ got r (at + 1)
  looked-within lo hi low high = rw l.is (byte-within-yes lo hi s at (omega arith) (omega arith))

  pub looked-above : (lo hi : ℕ) → hi < r → byte_within lo hi s at ≡ bad
  looked-above lo hi h = byte-within-high lo hi s at (omega arith)

  pub column-looked : r ≤ 3 → column s at ≡ got r (at + 1)
  unfolding column
  column-looked h = looked-within 0 3 (omega arith) h

  pub column-wrong : 3 < r → column s at ≡ bad
  unfolding column
  column-wrong h = looked-above 0 3 h

-- ---- Row sources

-- a source that one bit of the triggers admits
by_bit : (t : Bool) (x : Source) (s : List ℕ) (at : ℕ) → (if t then pure x else malformed) s at ≡ (if t || false then got x at else bad)
by_bit true x s at = refl
by_bit false x s at = refl

by-last-bit : (t : Bool) (x : Source) (s : List ℕ) (at : ℕ) → (if t then pure x else malformed) s at ≡ (if t then got x at else bad)
by-last-bit true x s at = refl
by-last-bit false x s at = refl

pub source_read : (triggers n : ℕ) (s : List ℕ) (at : ℕ)
    → source_of triggers n s at ≡ (if source_fits triggers n then got (source_meant n) at else bad)
unfolding source_of source_fits source_meant
source_read triggers n s at =
    split (ltb n 4) (λ e. rw e) (λ e4.
    split (eqb n 4) (λ e. rw (eqb-true n 4 e) (by_bit (bit triggers 0) Source.inserted s at)) (λ n4.
    split (eqb n 5) (λ e. rw (eqb-true n 5 e) (by_bit (bit triggers 1) Source.deleted s at)) (λ n5.
    split (eqb n 6) (λ e. rw (eqb-true n 6 e) (by_bit (bit triggers 2) Source.new_updated s at)) (λ n6.
    split (eqb n 7) (λ e. rw (eqb-true n 7 e) (by-last-bit (bit triggers 2) Source.old_updated s at)) (λ n7.
    rw (e4, n4, n5, n6, n7))))))
