-- `query::column_of` meets its contract. The loop's invariant: the values of the first j picked rows are in place, and every place after
-- them has the first row's.
use Rattle.slots.specs.Slots.{table_at}
use Rattle.query.proofs.Columns.{Filling}
use Rattle.query.proofs.column_of.Given as goal

abbrev pub invariant-loop-j : goal.invariant-loop-j
invariant-loop-j l = Filling (table_at l.room l.table.base) l.rows l.column l.values l.j
