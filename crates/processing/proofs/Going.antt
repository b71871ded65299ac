-- Before each turn: whatever the rest from here ends as, the whole ends as. So one turn more keeps it, and the last one gives the ending.
use Rattle.std.specs.Prelude.{Option, Some, None, Ok, Err}
use mathlib.Core.Path.{◌≡◌, ◌∙◌}
use mathlib.Core.List.{List}
use Prim.Native.Nat.{ℕ, ◌+◌, ◌-◌, ◌≤◌, ◌<◌}
use native.Mathlib.Omega.{arith}
use lib.ListN.{length, get_or}
use Rattle.room.specs.Room.{END, Kept}
use Rattle.room.proofs.Kept.{kept_trans}
use Rattle.changes.specs.declared.Stop.{Stop}
use Rattle.changes.specs.Steps.{Step}
use Rattle.plan.specs.declared.Plan.{Plan}
use Rattle.plan.specs.Plans.{Lists}
use Rattle.consider.specs.Considers.{Considers}
use Rattle.processing.specs.declared.Budget.{Budget}
use Rattle.processing.specs.declared.Outcome.TheVariants as outcome
use Rattle.processing.specs.declared.Ended.{Ended}
use Rattle.processing.specs.Endings.{stopped}
use Rattle.processing.specs.Rest.{Midway, Looks, EndsFrom, Steps}
use Rattle.processing.proofs.Turns.{quiet-ends, limit-ends, rule-below, rule-active, turn-ends, turn-midway, turn_on}

-- before a turn
pub record Going (xs zs book : List ℕ) (plan : Plan) (limit : ℕ) (b : Budget) : Type 0 where
  pub same : b.limit ≡ limit
  pub within : b.count ≤ limit
  pub beyond : Kept END (length xs) xs zs
  pub midway : Midway zs book plan
  pub rest : (ys : List ℕ) (r : Ended) → EndsFrom zs ys book plan (limit - b.count) b.count r → EndsFrom xs ys book plan limit 0 r

module _ {xs zs vs book : List ℕ} {plan : Plan} {limit : ℕ} {b : Budget} (g : Going xs zs book plan limit b)
    {found : Option ℕ} (t : Looks zs vs book plan found) where
  pub going-kept : Kept END (length xs) xs vs
  going-kept = kept_trans g.beyond (rw g.beyond.len at t.beyond)

  pub going-quiet : {r : Ended} → found ≡ None → (r.outcome ≡ outcome.Commit) × (r.count ≡ b.count) → Steps xs vs book plan limit r
  going-quiet q told = record { beyond = going-kept; from = g.rest vs _ (quiet-ends t (limit - b.count) b.count q told) }

  module _ {k : ℕ} (q : found ≡ Some k) where
    pub going-limit : {r : Ended} → limit ≤ b.count → (r.outcome ≡ outcome.StepLimit) × (r.count ≡ b.count)
        → Steps xs vs book plan limit r
    going-limit h told =
        record { beyond = going-kept; from = g.rest vs _ (limit-ends t q (limit - b.count) b.count (omega arith) told) }

    pub going-below : k < plan.count
    going-below = rule-below t q g.midway

    module _ (lists : Lists book plan.count plan) where
      pub going-active : get_or plan.tables k 0 ≤ 3
      going-active = rule-active t q lists g.midway

      module _ (some_left : b.count < limit) {ys : List ℕ} {step : Step} (c : Considers vs ys book plan k step) {n : ℕ}
          (counted : n ≡ b.count + 1) where
        kept : Kept END (length xs) xs ys
        kept = kept_trans going-kept (rw going-kept.len at c.beyond)

        pub going-ends : {r : Ended} {stop : Stop} → step ≡ Err stop → (r.outcome ≡ stopped stop) × (r.count ≡ n)
            → Steps xs ys book plan limit r
        going-ends e told = record {
          beyond = kept;
          from =
              g.rest ys _
              (turn-ends t q lists going-below c (limit - b.count) b.count (omega arith) e (told.0, told.1 ∙ counted));
        }

        pub going_on : step ≡ Ok tt → (after : Budget) → after.count ≡ n → after.limit ≡ b.limit → Going xs ys book plan limit after
        going_on e after count stays =
            let now-made : after.count ≡ b.count + 1 = count ∙ counted in
            let now-left : limit - after.count ≡ limit - b.count - 1 = omega arith in
            record {
              same = stays ∙ g.same;
              within = omega arith;
              beyond = kept;
              midway = turn-midway t q lists going-below c e g.midway;
              rest = λ ws r from.
                  g.rest ws r
                  (turn_on t q lists going-below c e (limit - b.count) b.count (omega arith)
                  (rw (now-left, now-made) at from));
            }
