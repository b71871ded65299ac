-- `trigger::first_triggered` meets its contract: before each turn no rule that was passed is triggered.
use Rattle.trigger.proofs.Walked.{Walked}
use Rattle.trigger.proofs.first_triggered.Given as goal

abbrev pub invariant-loop-number : goal.invariant-loop-number
invariant-loop-number l = Walked l.room l.s l.plan l.number-items l.number-index
