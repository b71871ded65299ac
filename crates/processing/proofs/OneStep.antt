-- The steps of a run by what is triggered first and what its consideration results in: each case is one clause of their definition.
use Rattle.std.specs.Prelude.{if◌then◌else◌}
use mathlib.Core.Path.{◌≡◌, refl}
use mathlib.Core.Bool.{Bool, true, false}
use mathlib.Core.List.{List, [], ◌∷◌}
use mathlib.Core.Option.{none, some}
use Prim.Native.Nat.{ℕ, zero, suc, ◌+◌, ◌-◌, ◌≤◌, ◌<◌}
use native.Mathlib.Omega.{arith}
use native.Mathlib.Numerals.{unary_clauses}
use lib.ListN.{get_or, take}
use Rattle.meaning.specs.Base.{first_with}
use Rattle.meaning.specs.Covers.{Rule, Outcome, commit, step_limit}
use Rattle.meaning.specs.RowOperations.{RowOperation, make_all}
use Rattle.meaning.specs.Processing.{State, ended, after_events, consider, moved, consideration, first_triggered, steps}
use Rattle.meaning.specs.Processing.Actions.{went, ends, onward}
use Rattle.meaning.proofs.Lists.{clash, same_some}

-- ---- One step

module _ (rules : List Rule) (order : List ℕ) (s : State) where
  pub steps-quiet : (left count : ℕ) → first_triggered rules order s ≡ none
      → steps rules order left count s ≡ ended commit count s.image []
  unfolding steps
  steps-quiet zero count e = rw e
  steps-quiet (suc left) count e = rw e

  module _ (k : ℕ) (first : first_triggered rules order s ≡ some k) where
    pub steps-limit : (left count : ℕ) → left ≤ 0 → steps rules order left count s ≡ ended step_limit count s.image []
    unfolding steps
    steps-limit zero count h = rw first
    steps-limit (suc left) count h = absurd (omega arith)

    pub steps-went : (left count : ℕ) (new : List RowOperation) → 0 < left → consider rules s k ≡ went new
        → steps rules order left count s
        ≡ after_events (consideration rules s k new) (steps rules order (left - 1) (count + 1) (moved rules s k new))
    unfolding steps onward
    steps-went zero count new h e = absurd (omega arith)
    steps-went (suc left) count new h e = simp unary_clauses (rw (first, e))

    pub steps-ends : (left count : ℕ) (o : Outcome) (new : List RowOperation) → 0 < left → consider rules s k ≡ ends o new
        → steps rules order left count s ≡ ended o (count + 1) (make_all new s.image) (consideration rules s k new)
    unfolding steps onward
    steps-ends zero count o new h e = absurd (omega arith)
    steps-ends (suc left) count o new h e = simp unary_clauses (rw (first, e))

-- ---- The first triggered rule

-- the first that passes of n numbers is one of them
pub first_below : (p : ℕ → Bool) (l : List ℕ) (n m k : ℕ) → ((i : ℕ) → i < n → get_or l i 0 < m) → first_with p (take n l) ≡ some k → k < m
first_below p l zero m k h e = clash refl e
first_below p [] (suc n) m k h e = clash refl e
first_below p (x ∷ l) (suc n) m k h e = go (p x) e (first_below p l n m k (λ i b. h (suc i) (omega arith)))
  where
    go : (b : Bool) → (if b then some x else first_with p (take n l)) ≡ some k → (first_with p (take n l) ≡ some k → k < m) → k < m
    go true e ih = let same : x ≡ k = same_some e in let b = h 0 (omega arith) in omega arith
    go false e ih = ih e
