-- `effects::bring_joined` meets its contract: the joined slot is pushed, unless the kinds, or the slot itself, say that nothing is left.
use native.Mathlib.Omega.{arith}
use Rattle.effects.proofs.SpareTable.{joined-nothing, joined-none, joined_free, joined-pushed}
use Rattle.effects.proofs.bring_joined.Goals as goal

pub returns-then-join_kind-eq-NOTHING : goal.returns-then-join_kind-eq-NOTHING
returns-then-join_kind-eq-NOTHING c =
    joined-nothing c.args.room.now _ _ _ c.requires.loom.spare c.kind_at-before.ensures c.kind_at-after.ensures
    c.join_kind.ensures c.if-join_kind-eq-NOTHING.true

pub returns-then-x-eq-NOTHING : goal.returns-then-x-eq-NOTHING
returns-then-x-eq-NOTHING c =
    joined-none c.args.room.now _ _ _ c.slot_at-e.ensures c.slot_at-op.ensures c.join_slot-x.ensures
    c.requires.loom.spare c.if-x-eq-NOTHING.true

pub push-requires : goal.push-requires
push-requires c =
    let free =
    joined_free c.args.room.now _ _ _ c.slot_at-e.ensures c.slot_at-op.ensures c.join_slot-x.ensures
    c.requires.j_len_bound c.if-x-eq-NOTHING.false in
    (omega arith, (c.requires.loom.spare, (free, omega arith)))

pub returns : goal.returns
returns c =
    joined-pushed c.args.room.now _ _ _ c.slot_at-e.ensures c.slot_at-op.ensures c.join_slot-x.ensures
    c.if-x-eq-NOTHING.false c.push.ensures
