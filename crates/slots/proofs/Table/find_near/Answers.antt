-- `slots::Table::find_near` meets its contract: a slot with the handle is the one that a search finds, since handles rise.
use mathlib.Core.Path.{sym}
use Rattle.slots.proofs.Order.{find-there, hit-at}
use Rattle.slots.proofs.Table.find_near.Goals as goal

pub returns-then-is_at : goal.returns-then-is_at
returns-then-is_at g c =
    let here = hit-at _ _ _ c.is_at.ensures c.if-is_at.true in
    sym (find-there _ _ _ c.requires.sorted here.0 here.1)
