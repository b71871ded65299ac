-- `changes::delete_all` meets its contract: before each turn the rows chosen so far are deleted, and those that are left are still live.
use Rattle.changes.proofs.Taking.{Taking, deletions}
use Rattle.changes.proofs.delete_all.Given as goal

abbrev pub invariant-loop-i : goal.invariant-loop-i
invariant-loop-i l = Taking l.initial.room l.room (deletions l.initial.room) l.i
