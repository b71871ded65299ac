-- The table of kinds has four lines of four: within them the number of an absent element does not matter, and past them that is all
-- there is.
use mathlib.Core.Path.{◌≡◌, refl, sym}
use mathlib.Core.List.{[]}
use Prim.Native.Nat.{ℕ, zero, suc, ◌≤◌, ◌<◌}
use native.Mathlib.Omega.{arith}
use lib.ListN.{length, get_or, get_or-eq_default}
use Rattle.meaning.specs.RowOperations.{join_kind, join_table}
use Rattle.words.proofs.Laws.{get_d_any}

four : (a : ℕ) → a < 4 → length (get_or join_table a []) ≡ 4
unfolding join_table
four zero h = refl
four (suc zero) h = refl
four (suc (suc zero)) h = refl
four (suc (suc (suc zero))) h = refl
four (suc (suc (suc (suc a)))) h = absurd (omega arith)

pub kind-in : (a b : ℕ) → a < 4 → b < 4 → get_or (get_or join_table a []) b 0 ≡ join_kind a b
unfolding join_kind
kind-in a b h l = get_d_any (get_or join_table a []) b 0 4 (omega (arith, four a h))

pub past-columns : (a b : ℕ) → a < 4 → 4 ≤ b → 4 ≡ join_kind a b
unfolding join_kind
past-columns a b h l = sym (get_or-eq_default (get_or join_table a []) 4 (omega (arith, four a h)))

pub past-lines : (a b : ℕ) → 4 ≤ a → 4 ≡ join_kind a b
unfolding join_kind join_table
past-lines a b h = rw (get_or-eq_default join_table [] h)

-- of kinds that were read
pub kind-of : {a b u v k : ℕ} → u ≡ a → v ≡ b → k ≡ join_kind u v → join_kind a b ≡ k
kind-of p q r = sym (rw (← p, ← q) r)
