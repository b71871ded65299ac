-- Total order (document 000, 4.4): repeatedly take the lowest-numbered rule not yet taken all of whose predecessors are taken.
use Rattle.std.specs.Prelude.{Bool, ◌&&◌, ◌||◌, not, List, [], ◌∷◌, ◌++◌, map, ℕ, zero, suc, eqb, length, get_or}
use Rattle.std.proofs.Math.Option.{Option, none, some}
use Rattle.meaning.specs.Base.{maybe, bit, up_from, any, all, first_with}
use Rattle.meaning.specs.Covers.{Rule}

-- `precedes`: for each rule, inactive ones included, the mask of the rules that it precedes
module _ (precedes : List ℕ) where
  unfoldable pub numbers : List ℕ
  numbers = up_from 0 (length precedes)

  unfoldable pub precedes_rule : ℕ → ℕ → Bool
  precedes_rule i j = bit (get_or precedes i 0) j

  -- not yet taken, and all of its predecessors are
  unfoldable pub ready : List ℕ → ℕ → Bool
  ready taken j = not (any (eqb j) taken) && all (λ i. not (precedes_rule i j) || any (eqb i) taken) numbers

  -- n rules are still to be taken; where none of them is ready, there is no order
  unfoldable pub take_from : ℕ → List ℕ → Option (List ℕ)
  take_from zero taken = some taken
  take_from (suc n) taken = maybe (first_with (ready taken) numbers) none (λ j. take_from n (taken ++ (j ∷ [])))

  unfoldable pub order_of : Option (List ℕ)
  order_of = take_from (length precedes) []

-- none: precedes has a cycle
unfoldable pub total_order : List Rule → Option (List ℕ)
total_order rules = order_of (map (λ r. r.precedes) rules)
