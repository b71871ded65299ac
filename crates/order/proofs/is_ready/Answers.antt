-- `order::is_ready` meets its contract: its test is the definition's, case by case.
use Rattle.order.specs.Order.{may_go}
use Rattle.order.proofs.is_ready.Goals as goal

pub returns-then-not-taken-j : goal.returns-then-not-taken-j
unfolding may_go
returns-then-not-taken-j c = rw c.if-not-taken-j.true c.all_passed.ensures

pub returns-else-not-taken-j : goal.returns-else-not-taken-j
unfolding may_go
returns-else-not-taken-j c = rw c.if-not-taken-j.false
