-- The test of `query::AgainstConstant` is its definition: the word of a cell is its value.
use mathlib.Core.Path.{refl}
use Rattle.slots.specs.Slots.{table_at}
use Rattle.query.proofs.Laws.{cell-read}
use Rattle.query.proofs.AgainstConstantTest.passes.Goals as goal

pub returns : goal.returns
returns c =
    rw (← cell-read (table_at c.args.room.now c.args.table.base) c.args.self.now.column refl c.value_at.ensures) c.compare.ensures
