-- `slots::Table::push_place` meets its contract: the slot's words are copied after the last, with the place as the top byte of the second
-- word, and then the size counts it.
use Prim.Native.Nat.{◌%◌}
use native.Mathlib.Omega.{arith}
use Rattle.slots.specs.Slots.{table_bytes}
use Rattle.slots.proofs.Frames.{word-put}
use Rattle.slots.proofs.Tables.{marks-kind, pushed}
use Rattle.slots.proofs.Table.push_place.Goals as goal

pub returns : goal.returns
unfolding table_bytes
returns g c =
    let marks = rw c.at-at.ensures at c.low32.ensures in
    rw (← marks-kind c.args.room.now c.args.from.base c.args.i c.requires.i_bound marks (c.args.i % 256) (omega arith))
    (pushed _ _ _ c.requires.stands c.size-end.ensures (omega arith) (rw (c.at-at.ensures, c.at.ensures) at c.copy.ensures)
    (word-put _ _ (omega arith) (omega arith) c.put_low32.ensures))
