-- Laws of words as signed values: the library's signed number of a word is the specification's value of it, and its sum is that of the
-- values.
use mathlib.Core.Path.{◌≡◌, sym, ◌∙◌}
use mathlib.Core.Option.{none, some}
use Prim.Native.Nat.{ℕ, ◌<◌}
use native.Mathlib.Omega.{arith}
use lib.IntN.{ℤ}
use lib.Dec.{eqb}
use mir.Syntax.{w32}
use mir.Val.{SFits, of_z, to_z}
use Rattle.std.proofs.lemmas.Grind.{common_steps}
use Rattle.std.proofs.lemmas.Int.{of_z-to_z, to_z-of_z}
use Rattle.meaning.specs.Values.{signed, agree, in_range}

-- ---- What the library reads and writes

pub cast-signed : (n : ℕ) → to_z w32 n ≡ signed n
unfolding signed
cast-signed n = grind (arith, common_steps)

-- a word that was cast to a signed number is its word again, and as an operand its value
module _ {z : ℤ} {n : ℕ} (cast : z ≡ to_z w32 n) (fits : n < 4294967296) where
  pub cast_back : of_z w32 z ≡ n
  cast_back = rw cast (of_z-to_z w32 n fits)

  pub cast_operand : to_z w32 (of_z w32 z) ≡ signed n
  cast_operand = rw cast_back (cast-signed n)

-- the word of a sum in the range stands for it
pub word-stands : {n : ℕ} {sum z : ℤ} → n ≡ of_z w32 (to_z w32 (of_z w32 sum)) → sum ≡ z → SFits w32 z → signed n ≡ z
word-stands {n} {sum} {z} word same fits =
    let back : to_z w32 (of_z w32 z) ≡ z = to_z-of_z w32 z fits in
    sym (cast-signed n) ∙ rw (word, same, back, back)

-- ---- The range

pub in-range : {z : ℤ} → SFits w32 z → in_range z ≡ some z
unfolding in_range
in-range {z} fits = grind (arith, common_steps)

pub out-of-range : {z : ℤ} → (SFits w32 z → ⊥) → in_range z ≡ none
unfolding in_range
out-of-range {z} out = grind (arith, common_steps)

-- ---- Equality

-- two values agree where their words are equal
pub signed-agree : (a b : ℕ) → a < 4294967296 → b < 4294967296 → agree (signed a) (signed b) ≡ eqb a b
unfolding agree signed
signed-agree a b fa fb = grind (arith, common_steps)
