-- `query::choose` meets its contract. The loop's invariant: the rows chosen so far are those at the first j places; the room is as it was
-- but for the chosen rows.
use Rattle.query.proofs.Loops.{Choosing}
use Rattle.query.proofs.choose.Given as goal

abbrev pub invariant-loop-j : goal.invariant-loop-j
invariant-loop-j l = Choosing l.initial.room l.room l.table.base l.rows l.j
