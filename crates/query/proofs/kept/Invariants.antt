-- `query::kept` meets its contract: the places are narrowed in place to those of the rows that pass the test.
use Rattle.slots.specs.Slots.{table_at}
use Rattle.query.proofs.Narrowing.{Narrowing}
use Rattle.query.proofs.kept.Given as goal

abbrev pub invariant-loop-j : goal.invariant-loop-j
invariant-loop-j g l = Narrowing (g.T.Test.passes l.test) (table_at l.room l.table.base) l.fn.rows l.places l.count l.j
