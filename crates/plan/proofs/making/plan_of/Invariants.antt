-- `plan::making::plan_of` meets its contract. The loop's invariant is `Planning`: the rules done are stored, the others are read from here on.
use Rattle.plan.proofs.Planning.{Planning}
use Rattle.plan.proofs.making.plan_of.Given as goal

abbrev pub invariant-loop-k : goal.invariant-loop-k
invariant-loop-k l = Planning l.s l.n l.tables l.rules l.masks l.here l.k
