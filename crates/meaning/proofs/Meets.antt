-- A mask meets a rule's columns exactly when a column is in both: a digit of the common bits is the lesser of the two digits, and a number
-- that is not 0 has a digit that is 1.
use mathlib.Core.Path.{◌≡◌, refl, sym, ap, ◌∙◌}
use mathlib.Core.Logic.{◌↔◌, ◌≢◌}
use mathlib.Core.Bool.{Bool, true, false}
use Prim.Native.Nat.{ℕ, suc, ◌/◌, ◌%◌, ◌^◌, min}
use native.Mathlib.Omega.{arith}
use native.Mathlib.Nat.{zero-div, pow-succ', div-div-eq-div-mul}
use lib.Dec.{eqb}
use lib.Arith.{bin_ind, digits_mod}
use lib.Bits.{bit_and, and_step, and_shr}
use borrow.Author.Tests.{eqb-true, eqb-false, eq-eqb, ne_eqb, not-true}
use Rattle.meaning.specs.Covers.{Rule}
use Rattle.meaning.specs.Processing.TransitionTables.{meets}
use Rattle.meaning.specs.Theorems.Shows.{Meets}

some-digit : (n : ℕ) → n ≢ 0 → (c : ℕ) × (n / 2 ^ c % 2 ≡ 1)
some-digit =
    bin_ind (λ (n : ℕ). n ≢ 0 → (c : ℕ) × (n / 2 ^ c % 2 ≡ 1)) (λ nz. absurd (nz refl)) (λ n ih nz. go n (eqb (n % 2) 1) refl ih nz)
  where
    half : (n c : ℕ) → n / 2 ^ suc c ≡ n / 2 / 2 ^ c
    half n c = rw (pow-succ' 2 c) (sym (div-div-eq-div-mul n 2 (2 ^ c)))

    go : (n : ℕ) (b : Bool) → eqb (n % 2) 1 ≡ b → (n / 2 ≢ 0 → (c : ℕ) × (n / 2 / 2 ^ c % 2 ≡ 1)) → n ≢ 0 → (c : ℕ) × (n / 2 ^ c % 2 ≡ 1)
    go n true e ih nz = let k = eqb-true (n % 2) 1 e in (0, (let j : n / 1 % 2 ≡ 1 = omega arith in j))
    go n false e ih nz =
        let k = eqb-false (n % 2) 1 e in
        let r = ih (λ z. nz (omega arith)) in
        (suc r.0, ap (λ (m : ℕ). m % 2) (half n r.0) ∙ r.1)

low_and : (a b : ℕ) → bit_and a b % 2 ≡ min (a % 2) (b % 2)
low_and a b = ap (λ (x : ℕ). x % 2) (and_step a b) ∙ digits_mod (bit_and (a / 2) (b / 2)) (omega arith)

digit_and : (a b c : ℕ) → bit_and a b / 2 ^ c % 2 ≡ min (a / 2 ^ c % 2) (b / 2 ^ c % 2)
digit_and a b c = ap (λ (x : ℕ). x % 2) (and_shr a b c) ∙ low_and (a / 2 ^ c) (b / 2 ^ c)

lesser-one : (x y : ℕ) → (min (x % 2) (y % 2) ≡ 1) ↔ ((x % 2 ≡ 1) × (y % 2 ≡ 1))
lesser-one x y = (λ e. (omega arith, omega arith), λ (e, f). omega arith)

pub meets-column : (r : Rule) (mask : ℕ) → (meets r mask ≡ true) ↔ Meets r mask
unfolding meets
meets-column r mask = (common, λ k. rw (ne_eqb (bit_and mask r.columns) 0 (not_none k)))
  where
    common : meets r mask ≡ true → Meets r mask
    common h =
        let n = eqb-false (bit_and mask r.columns) 0 (not-true (eqb (bit_and mask r.columns) 0) h) in
        let (c, d) = some-digit (bit_and mask r.columns) n in
        let k = (lesser-one (mask / 2 ^ c) (r.columns / 2 ^ c)).0 (sym (digit_and mask r.columns c) ∙ d) in
        (c, eq-eqb (mask / 2 ^ c % 2) 1 k.0, eq-eqb (r.columns / 2 ^ c % 2) 1 k.1)

    not_none : Meets r mask → bit_and mask r.columns ≢ 0
    not_none (c, p, q) z =
        let d =
        (lesser-one (mask / 2 ^ c) (r.columns / 2 ^ c)).1 (eqb-true (mask / 2 ^ c % 2) 1 p, eqb-true (r.columns / 2 ^ c % 2) 1 q) in
        let e : 0 / 2 ^ c % 2 ≡ 1 = ap (λ (x : ℕ). x / 2 ^ c % 2) (sym z) ∙ digit_and mask r.columns c ∙ d in
        let f = zero-div (2 ^ c) in
        omega arith
