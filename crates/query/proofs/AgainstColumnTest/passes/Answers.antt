-- The test of `query::AgainstColumn` is its definition: the words of the cells are their values.
use mathlib.Core.Path.{refl}
use Rattle.slots.specs.Slots.{table_at}
use Rattle.query.proofs.Laws.{cell-read}
use Rattle.query.proofs.AgainstColumnTest.passes.Goals as goal

pub returns : goal.returns
returns c =
    let t = table_at c.args.room.now c.args.table.base in
    rw (← cell-read t c.args.self.now.column refl c.value_at.ensures, ← cell-read t c.args.self.now.other refl c.value_at-2.ensures)
    c.compare.ensures
