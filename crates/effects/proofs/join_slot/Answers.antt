-- `effects::join_slot` meets its contract: its tests of the joined kind are those of the definition.
use mathlib.Core.Path.{sym}
use borrow.Author.Tests.{eq-eqb, ne_eqb}
use Rattle.room.specs.Joins.{join_slot, joined_slot}
use Rattle.effects.proofs.KindTable.{kind-of}
use Rattle.effects.proofs.join_slot.Goals as goal

pub returns-then-k-eq-DELETED : goal.returns-then-k-eq-DELETED
unfolding join_slot joined_slot
returns-then-k-eq-DELETED c =
    let kind = kind-of c.wide.ensures.0 c.wide-2.ensures.0 c.join_kind-k.ensures in
    sym (rw (kind, eq-eqb _ 2 c.if-k-eq-DELETED.true))

pub returns-then-k-eq-UPDATED : goal.returns-then-k-eq-UPDATED
unfolding join_slot joined_slot
returns-then-k-eq-UPDATED c =
    let kind = kind-of c.wide.ensures.0 c.wide-2.ensures.0 c.join_kind-k.ensures in
    rw (
      c.as_effect.ensures,
      c.united.ensures,
      kind,
      ne_eqb _ 2 c.if-k-eq-DELETED.false,
      eq-eqb _ 3 c.if-k-eq-UPDATED.true,
    )

pub returns-then-k-eq-NOTHING : goal.returns-then-k-eq-NOTHING
unfolding join_slot joined_slot
returns-then-k-eq-NOTHING c =
    let kind = kind-of c.wide.ensures.0 c.wide-2.ensures.0 c.join_kind-k.ensures in
    rw (
      c.as_effect-then-k-eq-NOTHING.ensures,
      kind,
      ne_eqb _ 2 c.if-k-eq-DELETED.false,
      ne_eqb _ 3 c.if-k-eq-UPDATED.false,
      eq-eqb _ 0 c.if-k-eq-NOTHING.true,
    )

pub returns : goal.returns
unfolding join_slot joined_slot
returns c =
    let kind = kind-of c.wide.ensures.0 c.wide-2.ensures.0 c.join_kind-k.ensures in
    sym
    (rw (
      kind,
      ne_eqb _ 2 c.if-k-eq-DELETED.false,
      ne_eqb _ 3 c.if-k-eq-UPDATED.false,
      ne_eqb _ 0 c.if-k-eq-NOTHING.false,
    ))
