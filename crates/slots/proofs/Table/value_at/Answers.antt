-- `slots::Table::value_at` meets its contract: the values stand in the last four words of the slot at the place, and there are no others.
use mathlib.Core.Path.{◌∙◌}
use native.Mathlib.Omega.{arith}
use Rattle.slots.proofs.Tables.{table-value, no_value}
use Rattle.slots.proofs.Table.value_at.Goals as goal

pub returns-then-column-ge4 : goal.returns-then-column-ge4
returns-then-column-ge4 g c = no_value _ _ (omega arith)

pub returns : goal.returns
returns g c = rw c.at.ensures at c.low32.ensures ∙ table-value _ _ _ _ (omega arith) (omega arith)
