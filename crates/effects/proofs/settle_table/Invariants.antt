-- `effects::settle_table` meets its contract: before each turn nothing has changed, and what is left of the stretch has the same to join as
-- all of it; at the first change both are woven from there on.
use Rattle.effects.proofs.SpareTable.{Going}
use Rattle.effects.proofs.settle_table.Given as goal

abbrev pub invariant-loop-j : goal.invariant-loop-j
invariant-loop-j l = Going l.initial.room l.room l.wait.base l.table l.i l.j
