-- `changes::delete_all` meets its contract: before each turn the rows chosen so far are deleted, and those that are left are still live.
use native.Mathlib.Omega.{arith}
use Rattle.room.proofs.Live.{live-sorted}
use Rattle.changes.proofs.Taking.{taking-start, taking-running, deleting-within, deleting-can, deleting-went, deleting-next}
use Rattle.changes.proofs.Taking.{deleting-done}
use Rattle.changes.proofs.delete_all.Goals as goal

pub loop-i-init : goal.loop-i-init
loop-i-init c = taking-start _ c.requires.taken

pub handle_at-handle-requires : goal.handle_at-handle-requires
handle_at-handle-requires c =
    let now = taking-running c.requires.running c.loop-i.invariant in
    (omega arith, (now.represents.laid.chosen, deleting-within c.requires.running c.size-i-end.ensures c.loop-i.invariant (omega arith)))

pub delete_row-requires : goal.delete_row-requires
delete_row-requires c =
    let now = taking-running c.requires.running c.loop-i.invariant in record {
      laid = now.represents.laid;
      sorted = live-sorted now.reached now.represents;
      can_join = deleting-can c.requires.running c.size-i-end.ensures c.loop-i.invariant (omega arith) c.handle_at-handle.ensures;
    }

pub unwrap-requires : goal.unwrap-requires
unwrap-requires c =
    deleting-went c.requires.running c.size-i-end.ensures c.loop-i.invariant (omega arith) c.handle_at-handle.ensures _ _ c.delete_row.ensures

pub loop-i-preserved : goal.loop-i-preserved
loop-i-preserved c =
    deleting-next c.requires.running c.size-i-end.ensures c.loop-i.invariant (omega arith) c.handle_at-handle.ensures _ _
    c.delete_row.ensures (λ k. (c.type_inv.room k).fits)

pub returns : goal.returns
returns c =
    deleting-done c.requires.running c.size-i-end.ensures c.loop-i.invariant (omega arith)
