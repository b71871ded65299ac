-- `slots::Table::find` meets its contract: the handle can only be at its place, and the tests are those of the definition.
use Rattle.slots.proofs.Order.{find-hit, find-miss}
use Rattle.slots.proofs.Table.find.Goals as goal

pub returns-then-is_at : goal.returns-then-is_at
returns-then-is_at g c = find-hit _ _ _ c.place-i.ensures c.is_at.ensures c.if-is_at.true

pub returns-else-is_at : goal.returns-else-is_at
returns-else-is_at g c = find-miss _ _ _ c.place-i.ensures c.is_at.ensures c.if-is_at.false
