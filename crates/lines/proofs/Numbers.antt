-- Laws of numbers as text: what the library writes of a 32-bit number is its text, and of the value that a word stands for that value's. Numbers
-- with a space in front of each are one more where one more is put.
use mathlib.Core.Path.{◌≡◌, refl, sym, ap, ◌∙◌}
use mathlib.Core.List.{List, [], ◌∷◌, ◌++◌, map, append-nil, append_assoc}
use Prim.Native.Nat.{ℕ, zero, suc, ◌+◌, ◌-◌, ◌*◌, ◌≤◌, ◌<◌}
use native.Mathlib.Nat.{add-mul, mul-le-mul_right}
use native.Mathlib.Numerals.{add-one}
use native.Mathlib.Omega.{arith}
use borrow.Author.Tests.{lt-ltb, le-ltb, ltb-true, ltb-false}
use lib.Dec.{ltb}
use lib.ListN.{length, get_or, take}
use lib.Seq.{take-length}
use Rattle.std.specs.Int.{cast_signed}
use Rattle.std.specs.Fmt as Fmt
use Rattle.std.proofs.Common.{w32}
use Rattle.std.proofs.lemmas.Fmt.{decimal_from_appends, length-decimal-le}
use Rattle.meaning.specs.Base.{ascii}
use Rattle.meaning.specs.Values.{signed}
use Rattle.meaning.specs.EntryPoints.{digits, decimal, signed_decimal, spaced}
use Rattle.words.proofs.Laws.{split}
use Rattle.lines.specs.Text.{PutsAt}
use Rattle.lines.proofs.Texts.{puts-nothing, puts_then, puts-as}

pub shown : (n : ℕ) → n < 4294967296 → Fmt.decimal n ≡ decimal n
unfolding digits decimal
shown n h =
    sym (decimal_from_appends digits appends 10 n (omega arith) (length-decimal-le 10 n (omega arith) (omega arith) (omega arith)))
  where
    appends : Rattle.std.proofs.lemmas.Fmt.AppendsLastDigit digits
    appends = record {
      one = λ k n small. rw (lt-ltb n 10 small);
      more = λ k n big. rw (le-ltb n 10 big);
    }

pub shown-value : (w : ℕ) → Fmt.signed_decimal (signed w) ≡ signed_decimal (signed w)
unfolding signed signed_decimal
shown-value w =
    split (ltb w 2147483648)
    (λ e. let small = ltb-true w 2147483648 e in rw e (shown w (omega arith)))
    (λ e.
    let big = ltb-false w 2147483648 e in
    rw e (ap (λ l. ascii "-" ++ l) (shown (suc (4294967295 - w)) (omega arith))))

pub as_value : (w : ℕ) → cast_signed w32 w ≡ signed w
unfolding signed
as_value w = let far : 4294967296 - suc w ≡ 4294967295 - w = omega arith in rw far

-- ---- Numbers with a space in front of each

spaced-more : {A : Type 0} (f : A → List ℕ) (xs : List A) (i : ℕ) (d : A) → i < length xs
    → spaced (map f (take i xs)) ++ (ascii " " ++ f (get_or xs i d)) ≡ spaced (map f (take (suc i) xs))
unfolding spaced
spaced-more f [] i d h = absurd (omega arith)
spaced-more f (x ∷ xs) zero d h = ap (λ l. ascii " " ++ l) (sym (append-nil (f x)))
spaced-more f (x ∷ xs) (suc i) d h =
    ap (λ l. ascii " " ++ l)
    (append_assoc (f x) (spaced (map f (take i xs))) (ascii " " ++ f (get_or xs i d)) ∙ ap (λ l. f x ++ l) (spaced-more f xs i d (omega arith)))

module _ {A : Type 0} (f : A → List ℕ) (most : ℕ) (numbers : List A) where
  -- the first i numbers are put from a place on
  pub record Spaced (before after : List ℕ) (at i here : ℕ) : Type 0 where
    pub put : PutsAt before after at (i * (1 + most)) (spaced (map f (take i numbers))) here

  pub spaced-none : (xs : List ℕ) (at : ℕ) → Spaced xs xs at 0 at
  unfolding spaced
  spaced-none xs at = record { put = puts-as refl (omega arith) (puts-nothing refl) }

  module _ {xs ys : List ℕ} {at i here : ℕ} (s : Spaced xs ys at i here) (more : i < length numbers) where
    -- there is room for one number more
    pub spaced-room : at + length numbers * (1 + most) ≤ length xs → here + (1 + most) ≤ length ys
    spaced-room h =
        let turn : (i + 1) * (1 + most) ≤ length numbers * (1 + most) = mul-le-mul_right (1 + most) (omega arith) in
        omega (arith, s.put.near, s.put.kept, turn, add-mul i 1 (1 + most))

    pub spaced-next : {zs us : List ℕ} {a b : ℕ} (n : A) → n ≡ get_or numbers i n → PutsAt ys zs here 1 (ascii " ") a
        → PutsAt zs us a most (f n) b → Spaced xs us at (i + 1) b
    spaced-next n is space number =
        record {
          put =
              puts-as (rw (is, add-one i) (spaced-more f numbers i n more)) (omega (arith, add-mul i 1 (1 + most)))
              (puts_then s.put (puts_then space number));
        }

  pub spaced-all : {xs ys : List ℕ} {at i here : ℕ} → Spaced xs ys at i here → i ≡ length numbers
      → PutsAt xs ys at (length numbers * (1 + most)) (spaced (map f numbers)) here
  spaced-all s all = rw (all, take-length numbers) at s.put
