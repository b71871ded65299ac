-- `working::work_out_all` meets its contract. The loop's invariant: the rows worked out so far, then what those that are left give, are
-- what all chosen rows give; the room is as it was but for the rows worked out.
use native.Mathlib.Omega.{arith}
use Rattle.std.proofs.lemmas.Result.{err_from_is_err_and}
use Rattle.working.proofs.Rows.{turning-start, turning-done, turning-stands, turning-sized}
use Rattle.working.proofs.Rows.{turning-pushed, turning-room, turning-ready, turning-more, turning-out}
use Rattle.working.proofs.work_out_all.Goals as goal

pub loop-i-init : goal.loop-i-init
loop-i-init c = turning-start c.requires.laid c.empty.ensures _ _

pub push_from-requires : goal.push_from-requires
push_from-requires c =
    (omega arith, (omega arith, (c.loop-i.invariant.stands, (turning-room c.loop-i.invariant (omega arith), (omega arith, (turning-stands c.loop-i.invariant, omega (arith, turning-sized c.loop-i.invariant)))))))

pub work_out_row-requires-clause-as_chosen : goal.work_out_row-requires-clause-as_chosen
work_out_row-requires-clause-as_chosen c =
    turning-ready c.loop-i.invariant (omega arith) (turning-pushed c.loop-i.invariant c.push_from.ensures (omega arith))

pub returns-in_err-work_out_row : goal.returns-in_err-work_out_row
returns-in_err-work_out_row c =
    let is = err_from_is_err_and c.from_residual.result c.from_residual.ensures.1 in
    rw (is.1, is.2)
    (turning-out c.loop-i.invariant (omega arith) (turning-pushed c.loop-i.invariant c.push_from.ensures (omega arith))
    c.work_out_row.ensures c.requires.laid c.empty.ensures c.in_err-work_out_row.was)

pub loop-i-preserved : goal.loop-i-preserved
loop-i-preserved c =
    turning-more c.loop-i.invariant (omega arith) (turning-pushed c.loop-i.invariant c.push_from.ensures (omega arith))
    c.work_out_row.ensures c.in_ok-work_out_row.was

pub returns : goal.returns
returns c =
    turning-done c.requires.laid c.empty.ensures _ _ c.loop-i.invariant (omega (arith, c.size-i-end.ensures))
