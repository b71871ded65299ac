-- Laws for the decoders of a book. A mask of which nothing is left when n bits are shifted out is below 2 ^ n. A number below a range or
-- above it is not in it. What was read of a book's first fields tells where its rules begin, and the span of a rule its bytes.
use Rattle.std.specs.Prelude.{if◌then◌else◌, Option, Some, None}
use mathlib.Core.Path.{◌≡◌, refl, sym, ◌∙◌}
use mathlib.Core.Bool.{false, and-false}
use mathlib.Core.List.{List, []}
use Prim.Native.Nat.{ℕ, ◌+◌, ◌-◌, ◌/◌, ◌^◌, ◌<◌}
use native.Mathlib.Nat.{div-eq_of_lt, div-lt_iff_lt-mul, one-le-pow}
use native.Mathlib.Omega.{arith}
use borrow.Author.Tests.{ltb-true, ltb-false, lt-leb, eq-eqb, ne_eqb}
use lib.Dec.{eqb, leb, ltb}
use lib.ListN.{take, drop}
use Rattle.meaning.specs.Base.{within}
use Rattle.meaning.specs.Reading.{Read, bad, got, byte_at, byte_within, number16, many}
use Rattle.meaning.specs.ByteLayouts.{rule, bytes2}
use Rattle.meaning.specs.EntryPoints.{first_rule, bytes_read, rule_after}
use Rattle.meaning.proofs.Parsing.{same_place, if-got, number16-reads}
use Rattle.words.proofs.Laws.{split}
use Rattle.book.specs.Books.{span_to, span_after, rule_span}

-- ---- Masks

pub shifted_out : (m n : ℕ) → eqb (m / 2 ^ n) 0 ≡ ltb m (2 ^ n)
shifted_out m n =
    split (ltb m (2 ^ n))
    (λ e. eq-eqb (m / 2 ^ n) 0 (div-eq_of_lt (ltb-true m (2 ^ n) e)) ∙ sym e)
    (λ e.
    let some : 0 < 2 ^ n = one-le-pow n 2 (omega arith) in
    let large = ltb-false m (2 ^ n) e in
    ne_eqb (m / 2 ^ n) 0 (λ q. omega (arith, (div-lt_iff_lt-mul {k = 2 ^ n} {x = m} {y = 1} some).0 (omega arith))) ∙ sym e)

-- ---- A number outside a range, and where bytes and numbers end

pub below : (lo hi n : ℕ) → n < lo → within lo hi n ≡ false
below lo hi n h = rw (lt-leb lo n h)

pub above : (lo hi n : ℕ) → hi < n → within lo hi n ≡ false
above lo hi n h = rw (lt-leb n hi h) (and-false (leb lo n))

module _ (s : List ℕ) (at : ℕ) {n next : ℕ} where
  pub byte-after : (lo hi : ℕ) → byte_within lo hi s at ≡ got n next → next ≡ at + 1
  unfolding byte_within
  byte-after lo hi e = sym (same_place (if-got (within lo hi (byte_at s at)) (got (byte_at s at) (at + 1)) e).1)

  pub number16-after : number16 s at ≡ got n next → next ≡ at + 2
  unfolding bytes2
  number16-after e = (number16-reads.told e).ends

-- ---- The bytes of a rule, by where it stands

-- the bytes of a span, if there is one
unfoldable pub bytes_in : List ℕ → Option (ℕ × ℕ) → List ℕ
bytes_in s None = []
bytes_in s (Some (start, end)) = take (end - start) (drop start s)

to-bytes : {A : Type 0} (s : List ℕ) (start : ℕ) (r : Read A) → bytes_in s (span_to start r) ≡ bytes_read s start r
unfolding bytes_in bytes_read
to-bytes s start bad = refl
to-bytes s start (got x end) = refl

after-bytes : {A : Type 0} (s : List ℕ) (n : ℕ) (r : Read A) → bytes_in s (span_after s n r) ≡ rule_after s n r
unfolding bytes_in rule_after
after-bytes s n bad = refl
after-bytes s n (got x start) = to-bytes s start (rule n s start)

pub rule-bytes : (s : List ℕ) (n k : ℕ)
    → bytes_in s (rule_span s n k) ≡ (if ltb k n then rule_after s n (many k (rule n) s first_rule) else [])
unfolding bytes_in
rule-bytes s n k = split (ltb k n) (λ e. rw e (after-bytes s n (many k (rule n) s first_rule))) (λ e. rw e)
