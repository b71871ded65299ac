-- `working::work_out` meets its contract: each kind of expression is worked out as the definition says, and a slot's value is its row's.
use mathlib.Core.Option.{some}
use mathlib.Core.Path.{ap}
use Rattle.meaning.specs.Processing.Queries.{work_out}
use Rattle.room.proofs.Cells.{value_cell}
use Rattle.working.proofs.work_out.Goals as goal

pub returns-in-Constant : goal.returns-in-Constant
unfolding work_out
returns-in-Constant c = rw c.in-Constant.is

pub returns-in-Column : goal.returns-in-Column
unfolding work_out
returns-in-Column c = rw (c.in-Column.is, c.value_at.ensures) (ap some (value_cell _ _))

pub returns-in-Sum : goal.returns-in-Sum
unfolding work_out
returns-in-Sum c = rw (c.in-Sum.is, ← value_cell, ← c.value_at-in-Sum.ensures) c.plus.ensures
