-- `changes::insert_all` meets its contract: without space it changes nothing, and otherwise before each turn the rows so far are inserted.
use mathlib.Core.Path.{sym, ◌∙◌}
use native.Mathlib.Omega.{arith}
use Rattle.std.proofs.lemmas.Result.{err_from_is_err_and}
use Rattle.changes.proofs.Inserting.{inserting-start, inserting-running, inserting-within, inserting-can, inserting-next}
use Rattle.changes.proofs.Inserting.{inserting-done, inserting-fails}
use Rattle.changes.proofs.insert_all.Goals as goal

pub returns-in_err-space_for : goal.returns-in_err-space_for
returns-in_err-space_for c =
    let is = err_from_is_err_and c.from_residual.result c.from_residual.ensures.1 in
    rw (is.1, is.2) (inserting-fails _ _ c.requires.running c.size-n.ensures (sym c.space_for.ensures ∙ c.in_err-space_for.was))

pub loop-i-init : goal.loop-i-init
loop-i-init c = inserting-start _ _

pub slot_at-e-requires : goal.slot_at-e-requires
slot_at-e-requires c =
    let space = sym c.space_for.ensures ∙ c.in_ok-space_for.was in
    let now = inserting-running c.requires.running c.requires.table_bound c.size-n.ensures space c.loop-i.invariant in
    (omega arith, (now.represents.laid.worked, inserting-within c.requires.running c.requires.table_bound c.size-n.ensures space c.loop-i.invariant c.loop-i-test.true))

pub insert_row-requires : goal.insert_row-requires
insert_row-requires c =
    let can = inserting-can c.requires.running c.requires.table_bound c.size-n.ensures (sym c.space_for.ensures ∙ c.in_ok-space_for.was)
    c.loop-i.invariant c.loop-i-test.true c.slot_at-e.ensures c.low_byte.ensures in
    record { room_len_bound = can.0; room_bound = can.1; joinable = can.2 }

pub loop-i-preserved : goal.loop-i-preserved
loop-i-preserved c =
    inserting-next c.requires.running c.requires.table_bound c.size-n.ensures (sym c.space_for.ensures ∙ c.in_ok-space_for.was)
    c.loop-i.invariant c.loop-i-test.true c.slot_at-e.ensures c.low_byte.ensures
    (λ k. (c.type_inv.room k).fits) c.insert_row.ensures

pub returns : goal.returns
returns c =
    inserting-done c.requires.running c.requires.table_bound c.size-n.ensures (sym c.space_for.ensures ∙ c.in_ok-space_for.was)
    c.loop-i.invariant c.loop-i-test.false
