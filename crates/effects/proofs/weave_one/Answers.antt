-- `effects::weave_one` meets its contract: what waits with lower handles is brought, and then the effect, joined with a slot of its handle
-- or as it is; what is woven and what is left are as they were.
use native.Mathlib.Omega.{arith}
use mathlib.Core.Path.{sym, ◌∙◌}
use Rattle.effects.proofs.SpareTable.{one-low, one-brings, one-loom, one-joins, one-joined, one-pushes, one-new}
use Rattle.effects.proofs.weave_one.Goals as goal

pub place_from-i-requires-clause-from_bound : goal.place_from-i-requires-clause-from_bound
place_from-i-requires-clause-from_bound c = one-low c.requires c.handle_at-handle.ensures

pub bring-requires : goal.bring-requires
bring-requires c =
    let given = one-brings c.requires c.handle_at-handle.ensures c.place_from-i.ensures in
    record { loom = given.0; from_le_to = given.1.0; to_bound = given.1.1.0; from_bound = given.1.1.1 }

pub is_at-requires : goal.is_at-requires
is_at-requires c =
    (omega arith, (one-loom c.requires c.handle_at-handle.ensures c.place_from-i.ensures c.bring.ensures).waits)

pub bring_joined-requires : goal.bring_joined-requires
bring_joined-requires c =
    let given = one-joins c.requires c.handle_at-handle.ensures c.place_from-i.ensures c.bring.ensures
    (sym c.is_at.ensures ∙ c.if-is_at.true) in
    record { loom = given.0; i_bound = given.1.0; j_bound = given.1.1.0; j_len_bound = given.1.1.1 }

pub overflow_add-result : goal.overflow_add-result
overflow_add-result c =
    let brings = one-brings c.requires c.handle_at-handle.ensures c.place_from-i.ensures in
    omega (arith, brings.1.1.0, c.requires.loom.waits.size)

pub returns-then-is_at : goal.returns-then-is_at
returns-then-is_at c =
    one-joined c.requires c.handle_at-handle.ensures c.place_from-i.ensures c.bring.ensures
    (sym c.is_at.ensures ∙ c.if-is_at.true) c.bring_joined.ensures

pub push_from-requires : goal.push_from-requires
push_from-requires c =
    let pushes = one-pushes c.requires c.handle_at-handle.ensures c.place_from-i.ensures c.bring.ensures
    (sym c.is_at.ensures ∙ c.if-is_at.false) in
    (omega arith, (omega arith, pushes))

pub returns : goal.returns
returns c =
    one-new c.requires c.handle_at-handle.ensures c.place_from-i.ensures c.bring.ensures
    (sym c.is_at.ensures ∙ c.if-is_at.false) c.push_from.ensures
