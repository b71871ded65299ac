-- `trigger::first_triggered` meets its contract: before each turn no rule that was passed is triggered.
use Rattle.trigger.proofs.Walked.{walk-unordered, walk-below, walk_start, walk-yes, walk_no, walk-done}
use Rattle.trigger.proofs.first_triggered.Goals as goal

pub returns-in_err-rules : goal.returns-in_err-rules
returns-in_err-rules c = rw c.from_residual.ensures (walk-unordered c.in_err-rules.was)

pub loop-number-init : goal.loop-number-init
loop-number-init c = walk_start c.in_ok-rules.was

pub is_triggered-requires-clause-count_bound : goal.is_triggered-requires-clause-count_bound
is_triggered-requires-clause-count_bound c =
    walk-below c.args.plan.now _ _ c.in_ok-rules.was c.loop-number-test.true c.wide-k.ensures.0

pub returns-then-is_triggered : goal.returns-then-is_triggered
returns-then-is_triggered c =
    walk-yes c.loop-number.invariant c.loop-number-test.true _ c.wide-k.ensures.0 c.is_triggered.ensures c.if-is_triggered.true

pub loop-number-preserved : goal.loop-number-preserved
loop-number-preserved c =
    walk_no c.loop-number.invariant c.loop-number-test.true _ c.wide-k.ensures.0 c.is_triggered.ensures c.if-is_triggered.false

pub returns : goal.returns
returns c = walk-done c.loop-number.invariant c.loop-number-test.false
