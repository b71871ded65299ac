-- The union of column masks: it is associative, and has no bit that neither mask has. Both hold digit by digit.
use mathlib.Core.Path.{◌≡◌, refl, sym, ap, ap₂, ◌∙◌}
use mathlib.Core.Bool.{false}
use Prim.Native.Nat.{ℕ, ◌+◌, ◌*◌, ◌/◌, ◌%◌, ◌^◌, ◌<◌, max}
use native.Mathlib.Omega.{arith}
use lib.Arith.{bin_ind, digits_div, digits_mod}
use lib.Bits.{bit_or, or_step, or_shr}
use borrow.Author.Tests.{eqb-false}
use Rattle.meaning.specs.Base.{bit}

max-bit : (a b : ℕ) → max (a % 2) (b % 2) < 2
max-bit a b = omega arith

max_assoc : (a b c : ℕ) → max (max a b) c ≡ max a (max b c)
max_assoc a b c = omega arith

half-or : (a b : ℕ) → bit_or a b / 2 ≡ bit_or (a / 2) (b / 2)
half-or a b = ap (λ (x : ℕ). x / 2) (or_step a b) ∙ digits_div (bit_or (a / 2) (b / 2)) (max-bit a b)

low_or : (a b : ℕ) → bit_or a b % 2 ≡ max (a % 2) (b % 2)
low_or a b = ap (λ (x : ℕ). x % 2) (or_step a b) ∙ digits_mod (bit_or (a / 2) (b / 2)) (max-bit a b)

digits : {p q x y : ℕ} → p ≡ q → x ≡ y → p * 2 + x ≡ q * 2 + y
digits e f = ap₂ (λ (p x : ℕ). p * 2 + x) e f

pub or_assoc : (a b c : ℕ) → bit_or (bit_or a b) c ≡ bit_or a (bit_or b c)
or_assoc =
    bin_ind (λ (a : ℕ). (b c : ℕ) → bit_or (bit_or a b) c ≡ bit_or a (bit_or b c)) (λ b c. refl)
    (λ a ih b c.
    or_step (bit_or a b) c
    ∙ digits (ap (λ (x : ℕ). bit_or x (c / 2)) (half-or a b) ∙ ih (b / 2) (c / 2) ∙ ap (bit_or (a / 2)) (sym (half-or b c)))
    (ap (λ (x : ℕ). max x (c % 2)) (low_or a b) ∙ max_assoc (a % 2) (b % 2) (c % 2) ∙ ap (max (a % 2)) (sym (low_or b c)))
    ∙ sym (or_step a (bit_or b c)))

-- digit c of a union is the greater of the two digits
digit_or : (a b c : ℕ) → bit_or a b / 2 ^ c % 2 ≡ max (a / 2 ^ c % 2) (b / 2 ^ c % 2)
digit_or a b c = ap (λ (x : ℕ). x % 2) (or_shr a b c) ∙ low_or (a / 2 ^ c) (b / 2 ^ c)

max-zero : (x y : ℕ) → (max (x % 2) (y % 2) ≡ 1 → ⊥) → (x % 2 ≡ 0) × (y % 2 ≡ 0)
max-zero x y n = (omega (arith, n), omega (arith, n))

-- a bit that the union lacks, both masks lack
pub bit-or : (a b c : ℕ) → bit (bit_or a b) c ≡ false → (bit a c ≡ false) × (bit b c ≡ false)
bit-or a b c e =
    let z = max-zero (a / 2 ^ c) (b / 2 ^ c) (λ q. eqb-false (bit_or a b / 2 ^ c % 2) 1 e (digit_or a b c ∙ q)) in
    (rw z.0, rw z.1)
