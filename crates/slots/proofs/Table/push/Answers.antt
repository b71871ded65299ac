-- `slots::Table::push` meets its contract: the slot is stored after the last, and then the size counts it.
use native.Mathlib.Omega.{arith}
use Rattle.slots.specs.Slots.{table_bytes}
use Rattle.slots.proofs.Frames.{word-put}
use Rattle.slots.proofs.Tables.{pushed}
use Rattle.slots.proofs.Table.push.Goals as goal

pub returns : goal.returns
unfolding table_bytes
returns g c =
    pushed _ _ _ c.requires.stands c.size-end.ensures (omega arith) (rw c.at.ensures at c.store.ensures)
    (word-put _ _ (omega arith) (omega arith) c.put_low32.ensures)
