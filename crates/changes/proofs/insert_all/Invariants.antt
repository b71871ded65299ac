-- `changes::insert_all` meets its contract: without space it changes nothing, and otherwise before each turn the rows so far are inserted.
use Rattle.changes.proofs.Inserting.{Inserting}
use Rattle.changes.proofs.insert_all.Given as goal

abbrev pub invariant-loop-i : goal.invariant-loop-i
invariant-loop-i l = Inserting l.initial.room l.room l.table l.i
