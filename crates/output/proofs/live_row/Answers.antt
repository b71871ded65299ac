-- `output::live_row` meets its contract: the slot's words are the row's.
use mathlib.Core.Path.{ap}
use native.Mathlib.Omega.{arith}
use Rattle.image.specs.Images as Images
use Rattle.room.specs.Room as Room
use Rattle.output.proofs.live_row.Goals as goal

pub returns : goal.returns
unfolding Images.row_meant Room.row_meant
returns c = record { is = rw c.wide.ensures.0 (ap Room.row_meant c.slot_at-e.ensures); table = omega arith }
