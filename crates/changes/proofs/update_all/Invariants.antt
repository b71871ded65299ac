-- `changes::update_all` meets its contract: before each turn the rows so far are updated to those worked out, and the chosen ones that are
-- left are still live.
use Rattle.changes.proofs.Taking.{Taking, rewrites}
use Rattle.changes.proofs.update_all.Given as goal

abbrev pub invariant-loop-i : goal.invariant-loop-i
invariant-loop-i l = Taking l.initial.room l.room (rewrites l.initial.room l.mask) l.i
