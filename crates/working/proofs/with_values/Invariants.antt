-- `working::with_values` meets its contract. The loop's invariant: the row, filled with the values still to come from its column on, is
-- the row wanted.
use lib.Count.{ones}
use Rattle.meaning.specs.Processing.Actions.{updated_row}
use Rattle.fields.specs.Fields.{values_at}
use Rattle.room.specs.Room.{row_meant}
use Rattle.working.proofs.Values.{Filling}
use Rattle.working.proofs.with_values.Given as goal

abbrev pub invariant-loop-c : goal.invariant-loop-c
invariant-loop-c l = Filling l.s l.mask (updated_row l.mask (values_at l.s (ones l.mask) l.initial.here) (row_meant l.initial.row)) l.row l.here l.c
