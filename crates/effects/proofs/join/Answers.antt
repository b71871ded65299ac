-- `effects::join` meets its contract: the handle is at its place and its slot is joined, or the operation is inserted there.
use native.Mathlib.Omega.{arith}
use Rattle.slots.specs.Slots.{table_at}
use Rattle.slots.proofs.Tables.{table-length}
use Rattle.slots.proofs.Order.{place-within}
use Rattle.effects.proofs.Joining.{free-slot, joined-insert}
use Rattle.effects.proofs.join.Goals as goal

pub insert_at-requires : goal.insert_at-requires
insert_at-requires c =
    let free = free-slot c.args.room.now 60000 _ c.args.op c.place_near-i.ensures
    (rw (← c.is_at.ensures) c.if-is_at.false) c.requires.takes in
    let low = place-within c.args.op.handle (table_at c.args.room.now 60000) in
    let len = table-length c.args.room.now 60000 in
    (omega arith, (c.requires.stands, (free, (omega arith, omega (arith, c.place_near-i.ensures, low, len)))))

pub returns : goal.returns
returns c =
    joined-insert c.args.room.now 60000 _ c.args.op c.place_near-i.ensures (rw (← c.is_at.ensures) c.if-is_at.false)
    c.insert_at.ensures
