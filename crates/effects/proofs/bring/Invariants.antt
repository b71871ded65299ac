-- `effects::bring` meets its contract: before each turn the slots from `from` up to `i` stand at the end of the spare table.
use Rattle.effects.proofs.SpareTable.{Brought}
use Rattle.effects.proofs.bring.Given as goal

abbrev pub invariant-loop-i : goal.invariant-loop-i
invariant-loop-i l = Brought l.initial.room l.room l.wait.base l.from l.to l.i
