-- `order::total_order` meets its contract. The loop's invariant is `Building`: the rules so far are those that the definition
-- has taken.
use Rattle.order.proofs.Building.{Building}
use Rattle.order.proofs.total_order.Given as goal

abbrev pub invariant-loop-rank : goal.invariant-loop-rank
invariant-loop-rank l = Building l.n l.masks l.rank l.taken l.rules
