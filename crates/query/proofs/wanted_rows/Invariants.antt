-- `query::wanted_rows` meets its contract. The loop's invariant: the rows of which all terms hold are those, of the rows that are left, of
-- which the terms that are left hold.
use Prim.Native.Nat.{◌-◌}
use Rattle.meaning.specs.ByteLayouts.{term}
use Rattle.words.specs.Words.{readable}
use Rattle.slots.specs.Slots.{table_at}
use Rattle.query.specs.Picks.{term_holds}
use Rattle.query.proofs.Asking.{Asking}
use Rattle.query.proofs.wanted_rows.Given as goal

abbrev pub invariant-loop : goal.invariant-loop
invariant-loop l = Asking (term_holds l.room) (table_at l.room l.table.base) (readable l.fn.q.terms.count (term l.triggers) l.book l.initial.here) (readable (l.fn.q.terms.count - l.counter) (term l.triggers) l.book l.here) l.initial.rows
    l.rows
