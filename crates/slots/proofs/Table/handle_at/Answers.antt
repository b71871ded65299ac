-- `slots::Table::handle_at` meets its contract: the handle stands in the first word of the slot at the place.
use mathlib.Core.Path.{sym, ◌∙◌}
use Rattle.slots.proofs.Tables.{table-handle}
use Rattle.slots.proofs.Table.handle_at.Goals as goal

pub returns : goal.returns
returns g c = rw c.at.ensures at c.low32.ensures ∙ sym (table-handle _ _ _ c.requires.i_bound)
