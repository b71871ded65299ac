-- `slots::Table::table_at` meets its contract: the field stands in the second word of the slot at the place.
use mathlib.Core.Path.{sym, ap}
use Rattle.slots.specs.declared.Slot.{Slot}
use Rattle.slots.specs.Slots.{slot_at}
use Rattle.slots.proofs.Tables.{table-get}
use Rattle.slots.proofs.Table.table_at.Goals as goal

pub returns : goal.returns
unfolding slot_at
returns g c =
    rw (c.low32.ensures, c.at.ensures) (sym (ap (λ (e : Slot). e.table) (table-get _ _ _ c.requires.i_bound)))
