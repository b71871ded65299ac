-- `processing::steps` meets its contract: before each turn, what the rest ends as is what the whole ends as.
use Prim.Native.Nat.{◌-◌}
use Rattle.processing.proofs.Going.{Going}
use Rattle.processing.proofs.steps.Given as goal

abbrev pub invariant-loop-b : goal.invariant-loop-b
invariant-loop-b l = Going l.initial.room l.room l.book l.plan l.limit l.b

abbrev pub decreases-loop-b : goal.decreases-loop-b
decreases-loop-b l = l.limit - l.b.count
