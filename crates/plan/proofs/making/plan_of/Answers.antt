-- `plan::making::plan_of` meets its contract. The loop's invariant is `Planning`: the rules done are stored, the others are read from here on.
use mathlib.Core.Path.{◌≡◌}
use native.Mathlib.Omega.{arith}
use Rattle.plan.proofs.Planning.{nothing-planned, one-planned, numbers-planned, all-planned}
use Rattle.plan.proofs.making.plan_of.Goals as goal

pub loop-k-init : goal.loop-k-init
loop-k-init c = nothing-planned c.args.s.now c.args.n c.requires.n_bound c.requires.s_value

pub loop-k-preserved : goal.loop-k-preserved
loop-k-preserved c = one-planned c.loop-k.invariant c.loop-k-test.true _ c.outline_at-rule.ensures

pub invariant_of-result : goal.invariant_of-result
invariant_of-result c =
    let all : c.loop-k.k ≡ c.args.n = omega arith in
    record {
      few = c.requires.n_bound;
      numbers = numbers-planned (rw all at c.loop-k.invariant) _ c.total_order-order.ensures;
    }

pub returns : goal.returns
returns c =
    let all : c.loop-k.k ≡ c.args.n = omega arith in
    all-planned (rw all at c.loop-k.invariant) _ c.total_order-order.ensures _ _
