-- `slots::Table::push_from` meets its contract: the slot's words are copied after the last, and then the size counts it.
use native.Mathlib.Omega.{arith}
use Rattle.slots.specs.Slots.{table_bytes}
use Rattle.slots.proofs.Frames.{word-put}
use Rattle.slots.proofs.Tables.{marks-same, pushed}
use Rattle.slots.proofs.Table.push_from.Goals as goal

pub returns : goal.returns
unfolding table_bytes
returns g c =
    let marks = rw c.at-at.ensures at c.low32-marks.ensures in
    rw (← marks-same c.args.room.now c.args.from.base c.args.i c.requires.i_bound marks)
    (pushed _ _ _ c.requires.stands c.size-end.ensures (omega arith) (rw (c.at-at.ensures, c.at.ensures) at c.copy.ensures)
    (word-put _ _ (omega arith) (omega arith) c.put_low32.ensures))
