-- `changes::update_all` meets its contract: before each turn the rows so far are updated to those worked out, and the chosen ones that are
-- left are still live.
use native.Mathlib.Omega.{arith}
use Rattle.room.proofs.Live.{live-sorted}
use Rattle.changes.proofs.Taking.{taking-start, taking-running, updating-within, updating-can, updating-went, updating-next}
use Rattle.changes.proofs.Taking.{updating-done}
use Rattle.changes.proofs.update_all.Goals as goal

pub loop-i-init : goal.loop-i-init
loop-i-init c = taking-start _ c.requires.taken

pub slot_at-e-requires : goal.slot_at-e-requires
slot_at-e-requires c =
    let now = taking-running c.requires.running c.loop-i.invariant in
    (omega arith, (now.represents.laid.worked, updating-within c.requires.running c.requires.mask_bound c.requires.rewritten c.size-i-end.ensures c.loop-i.invariant c.loop-i-test.true))

pub update_row-requires : goal.update_row-requires
update_row-requires c =
    let now = taking-running c.requires.running c.loop-i.invariant in record {
      laid = now.represents.laid;
      sorted = live-sorted now.reached now.represents;
      can_join = updating-can c.requires.running c.requires.mask_bound c.requires.rewritten c.size-i-end.ensures c.loop-i.invariant c.loop-i-test.true c.slot_at-e.ensures c.low_byte.ensures;
    }

pub unwrap-requires : goal.unwrap-requires
unwrap-requires c =
    updating-went c.requires.running c.requires.mask_bound c.requires.rewritten c.size-i-end.ensures c.loop-i.invariant c.loop-i-test.true
    c.slot_at-e.ensures c.low_byte.ensures _ _ c.update_row.ensures

pub loop-i-preserved : goal.loop-i-preserved
loop-i-preserved c =
    updating-next c.requires.running c.requires.mask_bound c.requires.rewritten c.size-i-end.ensures c.loop-i.invariant c.loop-i-test.true
    c.slot_at-e.ensures c.low_byte.ensures _ _ c.update_row.ensures (λ k. (c.type_inv.room k).fits)

pub returns : goal.returns
returns c =
    updating-done c.requires.running c.requires.mask_bound c.requires.rewritten c.size-i-end.ensures c.loop-i.invariant c.loop-i-test.false
