-- Where all n values of a run can be read, the run does not end short: one that cannot be read leaves fewer than n.
use Rattle.std.specs.Prelude.{Some, None}
use mathlib.Core.Path.{◌≡◌}
use mathlib.Core.List.{List, ◌∷◌}
use Prim.Native.Nat.{ℕ, zero, suc}
use native.Mathlib.Omega.{arith}
use lib.ListN.{length}
use Rattle.meaning.specs.Reading.{Parser, Read, bad, got, on_from, many}
use Rattle.words.specs.Words.{end_of, and_more, readable}
use Rattle.words.proofs.Laws.{ends-made}

module _ {A : Type 0} (p : Parser A) where
  at-short : {e : ℕ} → Some e ≡ None → ⊥
  at-short q = absurd (let z : ◌≡◌ {A = ℕ} 0 1 = cc in omega arith)

  pub not_short : (n : ℕ) (s : List ℕ) (at : ℕ) → length (readable n p s at) ≡ n → end_of (many n p s at) ≡ None → ⊥
  unfolding many readable and_more
  not_short zero s at h q = at-short q
  not_short (suc n) s at h q = go (p s at) (not_short n s) h q
    where
      go : (r : Read A) → ((k : ℕ) → length (readable n p s k) ≡ n → end_of (many n p s k) ≡ None → ⊥)
          → length (and_more r (readable n p s)) ≡ suc n
          → end_of (on_from r (λ x k. on_from (many n p s k) (λ xs e. got (x ∷ xs) e))) ≡ None → ⊥
      go bad ih h q = absurd (omega arith)
      go (got x k) ih h q = ih k (omega arith) (rw (ends-made (many n p s k) (λ xs. x ∷ xs)) at q)
