-- What is asked of the rows in the working room.
use Rattle.std.specs.Prelude.{◌≡◌, Bool, true, List, ℕ, ◌+◌, eqb, ltb, if◌then◌else◌}
use Rattle.meaning.specs.Covers.{Row, Query}
use Rattle.meaning.specs.Processing.Queries.{chosen, source_rows}
use Rattle.slots.specs.declared.Slot.{Slot}
use Rattle.slots.specs.Slots.{table_at, table_bytes, Frame, Stands}
use Rattle.terms.specs.Terms.{source_meant}
use Rattle.room.specs.Room.{LIVE, INSERTED, DELETED, NEW, OLD, CHOSEN, ROWS, rows_meant, live_rows, transition_in}

-- where a source's rows stand
unfoldable pub base_of : ℕ → ℕ
base_of source =
    if ltb source 4 then LIVE else
    if eqb source 4 then INSERTED else
    if eqb source 5 then DELETED else
    if eqb source 6 then NEW else OLD

-- a row that stands there is one of the source's
unfoldable pub shows : ℕ → Slot → Bool
shows source e = if ltb source 4 then eqb e.table source else true

-- the rows of a source
unfoldable pub rows_from : List ℕ → ℕ → List Row
rows_from xs source = source_rows (transition_in xs) (live_rows xs) (source_meant source)

-- the rows that a query yields are the chosen ones now, and nothing else changed
pub record Chose (xs ys : List ℕ) (q : Query) : Type 0 where
  pub frame : Frame CHOSEN (CHOSEN + table_bytes ROWS) xs ys
  pub stands : Stands CHOSEN ROWS ys
  pub rows : rows_meant (table_at ys CHOSEN) ≡ chosen (transition_in xs) (live_rows xs) q
