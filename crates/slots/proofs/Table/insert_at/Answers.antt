-- `slots::Table::insert_at` meets its contract: the slots from the place on move up, the slot takes the place that is free, and the size
-- counts it.
use native.Mathlib.Omega.{arith}
use Rattle.slots.specs.Slots.{table_bytes}
use Rattle.slots.proofs.Frames.{word-put}
use Rattle.slots.proofs.Tables.{inserted}
use Rattle.slots.proofs.Table.insert_at.Goals as goal

pub returns : goal.returns
unfolding table_bytes
returns g c =
    inserted _ _ _ _ c.requires.stands c.size-n.ensures (omega arith) (omega arith) (rw c.at-at.ensures at c.move_up.ensures)
    (rw c.at-at.ensures at c.store.ensures) (word-put _ _ (omega arith) (omega arith) c.put_low32.ensures)
