-- `slots::Table::put_at` meets its contract: the slot that is stored takes the place of the list's.
use Rattle.slots.proofs.Tables.{replaced}
use Rattle.slots.proofs.Table.put_at.Goals as goal

pub returns : goal.returns
returns g c =
    replaced _ _ _ c.requires.stands c.requires.i_bound (rw c.at.ensures at c.store.ensures)
