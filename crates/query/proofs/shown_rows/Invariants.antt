-- `query::shown_rows` meets its contract: the places of those of the first i slots that the source shows are written one after another.
use Rattle.slots.specs.Slots.{table_at}
use Rattle.query.specs.Chosen.{shows}
use Rattle.query.proofs.Narrowing.{Showing}
use Rattle.query.proofs.shown_rows.Given as goal

abbrev pub invariant-loop-i : goal.invariant-loop-i
invariant-loop-i l = Showing (shows l.source) (table_at l.room l.table.base) l.places l.count l.i
