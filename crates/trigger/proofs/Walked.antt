-- The walk through the rules in total order: those that were passed are not triggered, so the first triggered rule is the first of those
-- that are left.
use Rattle.std.specs.Prelude.{Some, None}
use Rattle.std.proofs.lemmas.List.{drop_more}
use mathlib.Core.Path.{◌≡◌, sym, ◌∙◌}
use mathlib.Core.Bool.{Bool, true, false}
use mathlib.Core.List.{List, ◌∷◌}
use Prim.Native.Nat.{ℕ, ◌+◌, ◌≤◌, ◌<◌}
use native.Mathlib.Omega.{arith}
use lib.ListN.{length, get_or, take, drop, length-take, drop_of_length-le}
use lib.Seq.{take-nil, get_or-take}
use Rattle.meaning.specs.Base.{first_with}
use Rattle.meaning.specs.Processing.{State, triggered, first_triggered}
use Rattle.plan.specs.declared.Plan.{Plan}
use Rattle.plan.specs.Numbers.{numbers_in}
use Rattle.plan.specs.Plans.{rules_in}
use Rattle.room.specs.Represents.{Settled}
use Rattle.trigger.specs.Triggers.{next_meant, order_in, Triggers, TriggersFirst}

-- where there is no order, no rule is triggered
pub walk-unordered : {xs s : List ℕ} {plan : Plan} → plan.order ≡ None → TriggersFirst xs s plan None
unfolding first_triggered next_meant order_in numbers_in
walk-unordered {plan = plan} none = record { is = λ state rep. rw (none, take-nil plan.count) }

-- a number in the order is that of a rule
pub walk-below : (plan : Plan) {rules : List ℕ} (i k : ℕ) → plan.order ≡ Some rules → i < length (take plan.count rules)
    → k ≡ get_or (take plan.count rules) i 0 → k < plan.count
unfolding numbers_in
walk-below plan {rules} i k ordered more read =
    let low : i < plan.count = omega (arith, length-take plan.count rules) in
    rw (read, get_or-take plan.count rules i 0 low) (rw ordered at (plan.numbers.rule i low))

-- before a turn with the first i of the rules in an order passed
pub record Walked (xs s : List ℕ) (plan : Plan) (order : List ℕ) (i : ℕ) : Type 0 where
  pub rest : (state : State) → Settled xs plan.tables state
      → first_triggered (rules_in s plan.count) (order_in plan) state
      ≡ first_with (triggered (rules_in s plan.count) state) (drop i order)

pub walk_start : {xs s : List ℕ} {plan : Plan} {rules : List ℕ} → plan.order ≡ Some rules
    → Walked xs s plan (take plan.count rules) 0
unfolding first_triggered order_in numbers_in
walk_start ordered = record { rest = λ state rep. rw ordered }

module _ {xs s : List ℕ} {plan : Plan} {order : List ℕ} {i : ℕ} (w : Walked xs s plan order i) where
  module _ (more : i < length order) (k : ℕ) (read : k ≡ get_or order i 0) where
    first : drop i order ≡ k ∷ drop (i + 1) order
    first = rw read (drop_more order i 0 more)

    pub walk-yes : {r : Bool} → Triggers xs s plan k r → r ≡ true → TriggersFirst xs s plan (Some k)
    unfolding next_meant
    walk-yes t on = record {
      is = λ state rep.
          let here : triggered (rules_in s plan.count) state k ≡ true = sym (t.is state rep) ∙ on in
          sym (w.rest state rep ∙ rw (first, here));
    }

    pub walk_no : {r : Bool} → Triggers xs s plan k r → r ≡ false → Walked xs s plan order (i + 1)
    walk_no t off = record {
      rest = λ state rep.
          let here : triggered (rules_in s plan.count) state k ≡ false = sym (t.is state rep) ∙ off in
          w.rest state rep ∙ rw (first, here);
    }

  pub walk-done : length order ≤ i → TriggersFirst xs s plan None
  unfolding next_meant
  walk-done h = record { is = λ state rep. sym (w.rest state rep ∙ rw (drop_of_length-le order h)) }
