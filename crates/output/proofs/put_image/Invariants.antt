-- `output::put_image` meets its contract. The loop's invariant is `Writing`: up to here the output holds the image's head and its first i
-- rows, and from here on what it held before the loop.
use Rattle.words.specs.Words.{low32_at}
use Rattle.slots.specs.Slots.{table_at}
use Rattle.room.specs.Room.{NEXT, LIVE}
use Rattle.output.proofs.Fronts.{Writing}
use Rattle.output.proofs.put_image.Given as goal

abbrev pub invariant-loop-i : goal.invariant-loop-i
invariant-loop-i l = Writing (table_at l.room LIVE) (low32_at l.room NEXT) l.n l.initial.out l.out l.i l.here
