-- `order::total_order` meets its contract. The loop's invariant is `Building`: the rules so far are those that the definition
-- has taken.
use mathlib.Core.Path.{◌≡◌, sym}
use native.Mathlib.Omega.{arith}
use borrow.Author.Rules.{rules}
use lib.ListN.{length, take}
use lib.Seq.{length-take-le}
use Rattle.order.specs.Order.{order_meant}
use Rattle.order.proofs.Building.{nothing-taken, next-below, one-taken, none-ready, all-taken}
use Rattle.order.proofs.Building.{masks-of-front, found_some, found_none}
use Rattle.order.proofs.total_order.Goals as goal

pub loop-rank-init : goal.loop-rank-init
loop-rank-init c = nothing-taken _ _ c.requires

pub returns-in_err-j : goal.returns-in_err-j
unfolding order_meant
returns-in_err-j c =
    let long : length c.args.precedes ≡ 16 = search rules in
    let none =
    none-ready
    c.loop-rank.invariant
    (take c.args.n c.args.precedes)
    (length-take-le c.args.n c.args.precedes (omega arith))
    (masks-of-front _ _ _ c.predecessors-masks.ensures)
    (omega arith)
    (found_none c.next_ready.ensures c.in_err-j.was) in
    rw c.from_residual.ensures (sym none)

pub bounds-taken-j : goal.bounds-taken-j
bounds-taken-j c = next-below c.loop-rank.invariant c.in_ok-j.j (found_some c.next_ready.ensures c.in_ok-j.was)

pub overflow_cast-rules : goal.overflow_cast-rules
overflow_cast-rules c = omega (arith, bounds-taken-j c)

pub loop-rank-preserved : goal.loop-rank-preserved
loop-rank-preserved c =
    one-taken c.loop-rank.invariant _ (omega arith) (found_some c.next_ready.ensures c.in_ok-j.was)

pub returns : goal.returns
unfolding order_meant
returns c =
    let long : length c.args.precedes ≡ 16 = search rules in
    sym
    (all-taken
    c.loop-rank.invariant
    (take c.args.n c.args.precedes)
    (length-take-le c.args.n c.args.precedes (omega arith))
    (masks-of-front _ _ _ c.predecessors-masks.ensures)
    (omega arith))
