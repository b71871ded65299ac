-- `working::with_cell` meets its contract: a row has four values, and a store past them changes nothing.
use native.Mathlib.Omega.{arith}
use lib.Seq.{set_out}
use Rattle.meaning.specs.Values.{signed}
use Rattle.room.specs.Room.{row_meant}
use Rattle.working.specs.Working.{with_cell}
use Rattle.working.proofs.with_cell.Goals as goal

pub returns-in-0 : goal.returns-in-0
unfolding with_cell row_meant
returns-in-0 c = rw c.in-0.is

pub returns-in-1 : goal.returns-in-1
unfolding with_cell row_meant
returns-in-1 c = rw c.in-1.is

pub returns-in-2 : goal.returns-in-2
unfolding with_cell row_meant
returns-in-2 c = rw c.in-2.is

pub returns-in-3 : goal.returns-in-3
unfolding with_cell row_meant
returns-in-3 c = rw c.in-3.is

pub returns-in_default : goal.returns-in_default
unfolding with_cell row_meant
returns-in_default c =
    rw (set_out (row_meant c.args.e).values c.args.column (signed c.args.v) (omega arith))
