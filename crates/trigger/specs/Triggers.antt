-- Which rule is triggered, of a book with a plan, by what waits in the working room.
use Rattle.std.specs.Prelude.{◌≡◌, Bool, List, ℕ, take, Option}
use Rattle.std.proofs.Math.Option.{Option as Maybe}
use Rattle.meaning.specs.Processing.{State, triggered, first_triggered}
use Rattle.words.specs.Words.{option_as}
use Rattle.plan.specs.declared.Plan.{Plan}
use Rattle.plan.specs.Numbers.{numbers_in}
use Rattle.plan.specs.Plans.{rules_in}
use Rattle.room.specs.Represents.{Settled}

unfoldable pub next_meant : Option ℕ → Maybe ℕ
next_meant = option_as (λ k. k)

-- the rules' numbers in total order, as the plan has them
unfoldable pub order_in : Plan → List ℕ
order_in plan = take plan.count (numbers_in plan.order)

-- for every state that the room represents, all settled, rule k is triggered or not
pub record Triggers (xs s : List ℕ) (plan : Plan) (k : ℕ) (r : Bool) : Type 0 where
  pub is : (state : State) → Settled xs plan.tables state → r ≡ triggered (rules_in s plan.count) state k

-- for every state that the room represents, all settled, the first triggered rule in total order
pub record TriggersFirst (xs s : List ℕ) (plan : Plan) (r : Option ℕ) : Type 0 where
  pub is : (state : State) → Settled xs plan.tables state
      → next_meant r ≡ first_triggered (rules_in s plan.count) (order_in plan) state
