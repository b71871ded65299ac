-- `slots::Table::place` meets its contract: before each turn every slot before `lo` is below the handle, and every slot from `hi` on is
-- not.
use Prim.Native.Nat.{◌-◌}
use Rattle.words.specs.Words.{low32_at}
use Rattle.slots.specs.Slots.{table_at}
use Rattle.slots.proofs.Loops.{Seek}
use Rattle.slots.proofs.Table.place.Given as goal

abbrev pub invariant-loop-lo : goal.invariant-loop-lo
invariant-loop-lo g l = Seek (table_at l.room l.self.base) (low32_at l.room l.self.base) l.handle l.lo l.hi

abbrev pub decreases-loop-lo : goal.decreases-loop-lo
decreases-loop-lo g l = l.hi - l.lo
