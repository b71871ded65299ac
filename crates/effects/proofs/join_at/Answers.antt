-- `effects::join_at` meets its contract: the slot at the place of the handle stays where the join is the same, is joined, or goes where
-- nothing is left of it.
use native.Mathlib.Omega.{arith}
use Rattle.effects.proofs.Joining.{hit-within, joined-remove, joined-put}
use Rattle.effects.proofs.join_at.Goals as goal

pub slot_at-e-requires : goal.slot_at-e-requires
slot_at-e-requires c = (omega arith, (c.requires.stands, hit-within _ _ _ c.args.op.handle c.requires.base_value))

pub remove_at-requires : goal.remove_at-requires
remove_at-requires c = (omega arith, (c.requires.stands, hit-within _ _ _ c.args.op.handle c.requires.base_value))

pub returns-then-x-eq-NOTHING : goal.returns-then-x-eq-NOTHING
returns-then-x-eq-NOTHING c =
    joined-remove _ _ _ c.args.op c.requires.i_value _ c.requires.base_value c.slot_at-e.ensures
    (rw (← c.join_slot-x.ensures) c.if-x-eq-NOTHING.true) c.remove_at.ensures

pub put_at-requires : goal.put_at-requires
put_at-requires c = (omega arith, (c.requires.stands, hit-within _ _ _ c.args.op.handle c.requires.base_value))

pub returns : goal.returns
returns c =
    joined-put _ _ _ c.args.op c.requires.i_value _ c.requires.base_value c.slot_at-e.ensures
    (rw (← c.join_slot-x.ensures) c.if-x-eq-NOTHING.false) (rw (← c.join_slot-x.ensures) c.put_at.ensures)
