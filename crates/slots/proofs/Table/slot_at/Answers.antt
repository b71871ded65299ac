-- `slots::Table::slot_at` meets its contract: the slot in the twenty-four bytes of its place is the list's.
use mathlib.Core.Path.{sym, ◌∙◌}
use Rattle.slots.proofs.Tables.{table-get}
use Rattle.slots.proofs.Table.slot_at.Goals as goal

pub returns : goal.returns
returns g c = rw c.at.ensures at c.load.ensures ∙ sym (table-get _ _ _ c.requires.i_bound)
