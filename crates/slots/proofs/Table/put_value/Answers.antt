-- `slots::Table::put_value` meets its contract: the word that is stored is the slot's value in the column, and its other words stay.
use native.Mathlib.Omega.{arith}
use Rattle.slots.specs.Slots.{table_bytes}
use Rattle.slots.proofs.Frames.{word-put, slot-valued}
use Rattle.slots.proofs.Tables.{table-get, replaced}
use Rattle.slots.proofs.Table.put_value.Goals as goal

pub returns : goal.returns
unfolding table_bytes
returns g c =
    rw (table-get c.args.room.now c.args.self.base c.args.i c.requires.i_bound)
    (replaced _ _ _ c.requires.stands c.requires.i_bound
    (slot-valued _ _ _ (word-put _ _ (omega arith) (omega arith) (rw c.at.ensures at c.put_low32.ensures)) c.requires.column_bound))
