-- `working::work_out_all` meets its contract. The loop's invariant: the rows worked out so far, then what those that are left give, are
-- what all chosen rows give; the room is as it was but for the rows worked out.
use lib.Count.{ones}
use Rattle.meaning.specs.ByteLayouts.{expression}
use Rattle.words.specs.Words.{readable}
use Rattle.working.proofs.Rows.{Turning}
use Rattle.working.proofs.work_out_all.Given as goal

abbrev pub invariant-loop-i : goal.invariant-loop-i
invariant-loop-i l = Turning l.initial.room l.room (readable (ones l.mask) expression l.book l.at) l.mask l.i
