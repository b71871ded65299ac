-- `rows::space_for` meets its contract: what is left of the handles is below the number of rows where their sum is past the last handle.
use native.Mathlib.Omega.{arith}
use Rattle.slots.proofs.Tables.{table-length}
use Rattle.room.specs.Room.{LIVE}
use Rattle.rows.proofs.Turning.{space-full, space-used-up, space-enough}
use Rattle.rows.proofs.space_for.Goals as goal

pub returns-then-size-n-gt-ROWS : goal.returns-then-size-n-gt-ROWS
returns-then-size-n-gt-ROWS c =
    space-full _ _ c.args.n (omega (arith, c.size.ensures, table-length c.args.room.now LIVE))

pub returns-then-left-n : goal.returns-then-left-n
returns-then-left-n c =
    space-used-up _ _ c.args.n (omega (arith, c.size.ensures, table-length c.args.room.now LIVE))
    (omega (arith, c.next-left.ensures))

pub returns : goal.returns
returns c =
    space-enough _ _ c.args.n (omega (arith, c.size.ensures, table-length c.args.room.now LIVE))
    (omega (arith, c.next-left.ensures))
