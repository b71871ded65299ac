-- `loading::empty_waits` meets its contract: before turn `k` nothing waits for the rules below `k`.
use Rattle.loading.proofs.Emptying.{Upto}
use Rattle.loading.proofs.empty_waits.Given as goal

abbrev pub invariant-loop-k : goal.invariant-loop-k
invariant-loop-k l = Upto l.initial.room l.room l.k
