-- `working::work_out_row` meets its contract. The loop's invariant: worked row i, filled from its column on with what the expressions
-- still to come give over chosen row i, is the row wanted, and nothing else has changed.
use Rattle.working.proofs.OneRow.{Storing}
use Rattle.working.proofs.work_out_row.Given as goal

abbrev pub invariant-loop-c : goal.invariant-loop-c
invariant-loop-c l = Storing l.initial.room l.room l.book l.mask l.at l.i l.here l.c
