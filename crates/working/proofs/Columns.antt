-- A row is filled column by column: the columns before c are done, and those from c on take the values that are still to come, one for
-- each set bit of the mask. A turn at a set bit stores the next value, and any other turn leaves the row, so the filled row stays the same.
use mathlib.Core.Path.{◌≡◌, refl, sym, ap, ◌∙◌}
use mathlib.Core.Bool.{true, false}
use mathlib.Core.List.{List, [], ◌∷◌, ◌++◌, append-nil}
use Prim.Native.Nat.{ℕ, zero, suc, ◌+◌, ◌/◌, ◌%◌, ◌^◌, ◌≤◌, ◌<◌}
use native.Mathlib.Nat.{div-one, div-div-eq-div-mul, pow-suc}
use native.Mathlib.Numerals.{add-one}
use native.Mathlib.Omega.{arith}
use borrow.Author.Tests.{eqb-true, eqb-false}
use lib.Count.{ones, ones_step}
use lib.IntN.{ℤ}
use lib.ListN.{length, take, drop, set, take-append-drop, drop_of_length-le}
use lib.Seq.{take_all}
use Rattle.meaning.specs.Base.{bit}
use Rattle.meaning.specs.Covers.{Row}
use Rattle.meaning.specs.Processing.Actions.{masked, updated_row}
use Rattle.working.specs.Working.{with_cell}

-- ---- How many values are still to come: the set bits from column c on

abbrev pub bits_from : ℕ → ℕ → ℕ
bits_from mask c = ones (mask / 2 ^ c)

pub bits-all : (mask : ℕ) → bits_from mask 0 ≡ ones mask
bits-all mask = ap ones (div-one mask)

bits-step : (mask c : ℕ) → bits_from mask c ≡ mask / 2 ^ c % 2 + bits_from mask (c + 1)
bits-step mask c =
    ones_step (mask / 2 ^ c)
    ∙ rw (add-one, pow-suc) (ap (λ (n : ℕ). mask / 2 ^ c % 2 + ones n) (div-div-eq-div-mul mask (2 ^ c) 2))

-- past the last column there is none
pub bits_none : (mask c : ℕ) → mask ≤ 15 → c ≡ 4 → bits_from mask c ≡ 0
unfolding ones
bits_none mask c small e = let z : mask / 16 ≡ 0 = omega arith in rw e (ap ones z)

module _ (mask c : ℕ) where
  pub bits-set : bit mask c ≡ true → bits_from mask c ≡ suc (bits_from mask (c + 1))
  bits-set e = omega (arith, bits-step mask c, eqb-true (mask / 2 ^ c % 2) 1 e)

  pub bits-unset : bit mask c ≡ false → bits_from mask c ≡ bits_from mask (c + 1)
  bits-unset e =
      let n : mask / 2 ^ c % 2 ≡ 1 → ⊥ = eqb-false (mask / 2 ^ c % 2) 1 e in
      let z : mask / 2 ^ c % 2 ≡ 0 = low (mask / 2 ^ c) n in
      omega (arith, bits-step mask c)
    where
      low : (k : ℕ) → (k % 2 ≡ 1 → ⊥) → k % 2 ≡ 0
      low k h = omega arith

-- ---- The values of a row, filled

-- with no value to come the old ones stay
masked-none : (mask c : ℕ) (l : List ℤ) → masked mask c [] l ≡ l
unfolding masked
masked-none mask c [] = refl
masked-none mask c (x ∷ l) = refl

module _ (mask c : ℕ) where
  fill-set : bit mask c ≡ true → (v : ℤ) (vs l : List ℤ) (k : ℕ) → k < length l
      → take k l ++ masked mask c (v ∷ vs) (drop k l)
      ≡ take (suc k) (set l k v) ++ masked mask (suc c) vs (drop (suc k) (set l k v))
  unfolding masked
  fill-set e v vs [] k h = absurd (omega arith)
  fill-set e v vs (x ∷ l) zero h = rw e
  fill-set e v vs (x ∷ l) (suc k) h = ap (λ (r : List ℤ). x ∷ r) (fill-set e v vs l k (omega arith))

  fill-unset : bit mask c ≡ false → (vs l : List ℤ) (k : ℕ) → k < length l
      → take k l ++ masked mask c vs (drop k l) ≡ take (suc k) l ++ masked mask (suc c) vs (drop (suc k) l)
  unfolding masked
  fill-unset e vs [] k h = absurd (omega arith)
  fill-unset e [] (x ∷ l) zero h = ap (λ (r : List ℤ). x ∷ r) (sym (masked-none mask (suc c) l))
  fill-unset e (v ∷ vs) (x ∷ l) zero h = rw e
  fill-unset e vs (x ∷ l) (suc k) h = ap (λ (r : List ℤ). x ∷ r) (fill-unset e vs l k (omega arith))

-- ---- A row, filled from column c on

unfoldable pub filled : ℕ → ℕ → List ℤ → Row → Row
filled mask c vs r =
    record { handle = r.handle; table = r.table; values = take c r.values ++ masked mask c vs (drop c r.values) }

module _ (r : Row) where
  with_values : List ℤ → Row
  with_values l = record { handle = r.handle; table = r.table; values = l }

  pub filled-all : (mask : ℕ) (vs : List ℤ) → updated_row mask vs r ≡ filled mask 0 vs r
  unfolding updated_row filled
  filled-all mask vs = refl

  pub filled-done : (mask c : ℕ) (vs : List ℤ) → length r.values ≤ c → filled mask c vs r ≡ r
  unfolding filled with_values masked
  filled-done mask c vs h =
      ap with_values
      (rw (drop_of_length-le r.values {i = c} h, take_all c r.values h) (append-nil r.values))

  pub filled_none : (mask c : ℕ) → filled mask c [] r ≡ r
  unfolding filled with_values
  filled_none mask c = ap with_values (rw (masked-none mask c (drop c r.values)) (take-append-drop c r.values))

  module _ (mask c : ℕ) (h : c < length r.values) where
    pub filled-set : bit mask c ≡ true → (v : ℤ) (vs : List ℤ) → filled mask c (v ∷ vs) r ≡ filled mask (c + 1) vs (with_cell r c v)
    unfolding filled with_cell with_values
    filled-set e v vs = rw add-one (ap with_values (fill-set mask c e v vs r.values c h))

    pub filled-unset : bit mask c ≡ false → (vs : List ℤ) → filled mask c vs r ≡ filled mask (c + 1) vs r
    unfolding filled with_values
    filled-unset e vs = rw add-one (ap with_values (fill-unset mask c e vs r.values c h))
