-- `slots::Table::place` meets its contract: before each turn every slot before `lo` is below the handle, and every slot from `hi` on is
-- not.
use native.Mathlib.Omega.{arith}
use Rattle.slots.specs.Slots.{table_bytes}
use Rattle.slots.proofs.Tables.{table-length}
use Rattle.slots.proofs.Loops.{seek-start, seek-left, seek-right, seek-done}
use Rattle.slots.proofs.Table.place.Goals as goal

pub loop-lo-init : goal.loop-lo-init
loop-lo-init g c = rw c.size-hi.ensures (seek-start _ _ _ (table-length _ _))

pub loop-lo-preserved-then-handle_at-handle : goal.loop-lo-preserved-then-handle_at-handle
loop-lo-preserved-then-handle_at-handle g c =
    seek-right _ _ _ _ c.loop-lo.invariant _ _ c.requires.sorted (omega arith)
    c.handle_at.ensures c.if-handle_at-handle.true

pub loop-lo-preserved : goal.loop-lo-preserved
loop-lo-preserved g c =
    seek-left _ _ _ _ c.loop-lo.invariant _ _ c.requires.sorted (omega arith) (omega arith)
    c.handle_at.ensures c.if-handle_at-handle.false

pub returns : goal.returns
unfolding table_bytes
returns g c = seek-done _ _ _ _ c.loop-lo.invariant c.loop-lo-test.false
