-- The row after an update has in each column of the mask the value whose place is the number of set bits below: `masked` goes through the
-- columns from the lowest, and takes the next value at each set bit.
use Rattle.std.specs.Prelude.{if◌then◌else◌}
use mathlib.Core.Path.{◌≡◌, refl, sym, ap, ap₂, ◌∙◌, subst}
use mathlib.Core.Bool.{Bool, true, false}
use mathlib.Core.List.{List, [], ◌∷◌, map}
use Prim.Native.Nat.{ℕ, zero, suc, ◌+◌, ◌/◌, ◌%◌, ◌^◌, ◌<◌}
use native.Mathlib.Nat.{div-one, mod-lt}
use native.Mathlib.Numerals.{add-one}
use native.Mathlib.Omega.{arith}
use lib.IntN.{ℤ, pos}
use lib.Count.{ones, ones_step, ones_cat}
use lib.ListN.{length, get_or}
use lib.Pow.{pow_pos, split, field, mod-mod-pow, shr-shr}
use borrow.Author.Tests.{eqb-true, eqb-false}
use Rattle.meaning.specs.Base.{bit}
use Rattle.meaning.specs.Covers.{Row}
use Rattle.meaning.specs.Processing.Queries.{cell}
use Rattle.meaning.specs.Processing.Actions.{masked, updated_row}
use Rattle.meaning.specs.Theorems.Performs.{cell_after, row_after}
use Rattle.meaning.proofs.Lists.{true-is-false}

-- ---- Set bits

-- how many of the i bits from column c on are set
abbrev among : ℕ → ℕ → ℕ → ℕ
among mask c i = ones (mask / 2 ^ c % 2 ^ i)

among_none : (mask c : ℕ) → among mask c 0 ≡ 0
unfolding ones
among_none mask c = let z : mask / 2 ^ c % 1 ≡ 0 = omega arith in ap ones z

among-step : (mask c i : ℕ) → among mask c (suc i) ≡ mask / 2 ^ c % 2 + among mask (suc c) i
among-step mask c i =
    let n = mask / 2 ^ c in
    ap (λ (k : ℕ). ones (n % 2 ^ k)) (sym (add-one i)) ∙ ones_step (n % 2 ^ (i + 1))
    ∙ ap₂ (λ (p q : ℕ). p + ones q) (mod-mod-pow n i 1) (field n i 1)
    ∙ ap (λ (k : ℕ). n % 2 + ones (k % 2 ^ i)) (shr-shr mask c 1 ∙ ap (λ (k : ℕ). mask / 2 ^ k) (add-one c))

module _ (mask c i : ℕ) where
  among-set : bit mask c ≡ true → among mask c (suc i) ≡ suc (among mask (suc c) i)
  among-set e = omega (arith, among-step mask c i, eqb-true (mask / 2 ^ c % 2) 1 e)

  among-unset : bit mask c ≡ false → among mask c (suc i) ≡ among mask (suc c) i
  among-unset e = go (mask / 2 ^ c) (eqb-false (mask / 2 ^ c % 2) 1 e) (among-step mask c i)
    where
      go : (n : ℕ) → (n % 2 ≡ 1 → ⊥) → among mask c (suc i) ≡ n % 2 + among mask (suc c) i → among mask c (suc i) ≡ among mask (suc c) i
      go n h q = omega arith

-- a set bit is one more than those below it
fewer-below : (mask c : ℕ) → bit mask c ≡ true → ones (mask % 2 ^ c) < ones mask
fewer-below mask c e =
    let one = eqb-true (mask / 2 ^ c % 2) 1 e in
    let all = ap ones (sym (split mask c)) ∙ ones_cat c (mask / 2 ^ c) (mask % 2 ^ c) (mod-lt mask (pow_pos c)) in
    omega (arith, ones_step (mask / 2 ^ c), all, one)

-- ---- Values, over the old ones from column c on

pub bit_at : (mask : ℕ) {b : Bool} {c d : ℕ} → c ≡ d → bit mask c ≡ b → bit mask d ≡ b
bit_at mask {b} k e = subst (λ (n : ℕ). bit mask n ≡ b) k e

-- in a column of the mask stands the value behind those for the set bits between
abbrev Stands : ℕ → ℕ → List ℤ → List ℤ → ℕ → Type 0
Stands mask c vs olds i = bit mask (c + i) ≡ true → i < length olds → among mask c i < length vs
    → get_or (masked mask c vs olds) i (pos 0) ≡ get_or vs (among mask c i) (pos 0)

masked-there : (mask c : ℕ) (vs olds : List ℤ) (i : ℕ) → Stands mask c vs olds i
unfolding masked
masked-there mask c vs [] i e l k = absurd (omega arith)
masked-there mask c [] (o ∷ os) i e l k = absurd (omega arith)
masked-there mask c (v ∷ vs) (o ∷ os) i e l k =
    go (bit mask c) refl i e l k (masked-there mask (suc c) vs os) (masked-there mask (suc c) (v ∷ vs) os)
  where
    go : (b : Bool) → bit mask c ≡ b → (i : ℕ) → bit mask (c + i) ≡ true → i < suc (length os) → among mask c i < suc (length vs)
        → ((j : ℕ) → Stands mask (suc c) vs os j) → ((j : ℕ) → Stands mask (suc c) (v ∷ vs) os j)
        → get_or (if b then v ∷ masked mask (suc c) vs os else o ∷ masked mask (suc c) (v ∷ vs) os) i (pos 0)
        ≡ get_or (v ∷ vs) (among mask c i) (pos 0)
    go true f zero e l k p q = rw (among_none mask c)
    go true f (suc i) e l k p q =
        let n = among-set mask c i f in
        rw n (p i (bit_at mask (let s : c + suc i ≡ suc c + i = omega arith in s) e) (omega arith) (omega arith))
    go false f zero e l k p q = true-is-false (bit_at mask (let s : c + 0 ≡ c = omega arith in s) e) f
    go false f (suc i) e l k p q =
        let n = among-unset mask c i f in
        rw n (q i (bit_at mask (let s : c + suc i ≡ suc c + i = omega arith in s) e) (omega arith) (omega arith))

-- a column that the mask does not list keeps its value
pub masked-elsewhere : (mask c : ℕ) (vs olds : List ℤ) (i : ℕ) → bit mask (c + i) ≡ false
    → get_or (masked mask c vs olds) i (pos 0) ≡ get_or olds i (pos 0)
unfolding masked
masked-elsewhere mask c vs [] i e = refl
masked-elsewhere mask c [] (o ∷ os) i e = refl
masked-elsewhere mask c (v ∷ vs) (o ∷ os) i e =
    go (bit mask c) refl i e (λ j f. masked-elsewhere mask (suc c) vs os j f) (λ j f. masked-elsewhere mask (suc c) (v ∷ vs) os j f)
  where
    go : (b : Bool) → bit mask c ≡ b → (i : ℕ) → bit mask (c + i) ≡ false
        → ((j : ℕ) → bit mask (suc c + j) ≡ false → get_or (masked mask (suc c) vs os) j (pos 0) ≡ get_or os j (pos 0))
        → ((j : ℕ) → bit mask (suc c + j) ≡ false → get_or (masked mask (suc c) (v ∷ vs) os) j (pos 0) ≡ get_or os j (pos 0))
        → get_or (if b then v ∷ masked mask (suc c) vs os else o ∷ masked mask (suc c) (v ∷ vs) os) i (pos 0) ≡ get_or (o ∷ os) i (pos 0)
    go true f zero e p q = true-is-false f (bit_at mask (let k : c + 0 ≡ c = omega arith in k) e)
    go true f (suc i) e p q = p i (bit_at mask (let k : c + suc i ≡ suc c + i = omega arith in k) e)
    go false f zero e p q = refl
    go false f (suc i) e p q = q i (bit_at mask (let k : c + suc i ≡ suc c + i = omega arith in k) e)

pub masked-length : (mask c : ℕ) (vs olds : List ℤ) → length (masked mask c vs olds) ≡ length olds
unfolding masked
masked-length mask c vs [] = refl
masked-length mask c [] (o ∷ os) = refl
masked-length mask c (v ∷ vs) (o ∷ os) = go (bit mask c) (masked-length mask (suc c) vs os) (masked-length mask (suc c) (v ∷ vs) os)
  where
    go : (b : Bool) → length (masked mask (suc c) vs os) ≡ length os → length (masked mask (suc c) (v ∷ vs) os) ≡ length os
        → length (if b then v ∷ masked mask (suc c) vs os else o ∷ masked mask (suc c) (v ∷ vs) os) ≡ suc (length os)
    go true p q = ap suc p
    go false p q = ap suc q

-- ---- The row

module _ (mask : ℕ) (vs : List ℤ) (x : Row) (as_many_lem : length vs ≡ ones mask) (four : length x.values ≡ 4) where
  cell-after : (c : ℕ) → c < 4 → get_or (masked mask 0 vs x.values) c (pos 0) ≡ cell_after mask vs x c
  unfolding cell
  cell-after c l = go (bit mask c) refl
    where
      here : c ≡ 0 + c
      here = omega arith

      low : among mask 0 c ≡ ones (mask % 2 ^ c)
      low = ap (λ (n : ℕ). ones (n % 2 ^ c)) (div-one mask)

      go : (b : Bool) → bit mask c ≡ b → get_or (masked mask 0 vs x.values) c (pos 0)
          ≡ (if b then get_or vs (ones (mask % 2 ^ c)) (pos 0) else cell x c)
      go true e =
          let n = fewer-below mask c e in
          masked-there mask 0 vs x.values c (bit_at mask here e) (omega arith) (omega (arith, low))
          ∙ ap (λ (n : ℕ). get_or vs n (pos 0)) low
      go false e = masked-elsewhere mask 0 vs x.values c (bit_at mask here e)

  pub row-after : updated_row mask vs x ≡ row_after mask vs x
  unfolding updated_row
  row-after =
      ap (λ (ws : List ℤ). record { handle = x.handle; table = x.table; values = ws })
      (spelt (masked mask 0 vs x.values) (masked-length mask 0 vs x.values ∙ four)
      ∙ rw (cell-after 0 (omega arith), cell-after 1 (omega arith), cell-after 2 (omega arith), cell-after 3 (omega arith)))
    where
      spelt : (ws : List ℤ) → length ws ≡ 4 → ws ≡ map (λ (c : ℕ). get_or ws c (pos 0)) (0 ∷ 1 ∷ 2 ∷ 3 ∷ [])
      spelt [] l = absurd (omega arith)
      spelt (p ∷ []) l = absurd (omega arith)
      spelt (p ∷ q ∷ []) l = absurd (omega arith)
      spelt (p ∷ q ∷ r ∷ []) l = absurd (omega arith)
      spelt (p ∷ q ∷ r ∷ s ∷ []) l = refl
      spelt (p ∷ q ∷ r ∷ s ∷ t ∷ ws) l = absurd (omega arith)
