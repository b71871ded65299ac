-- `action::update_one` meets its contract: the row that is found, with the values, takes the place of the old one; where none is found
-- nothing changed.
use native.Mathlib.Omega.{arith}
use lib.Count.{ones}
use mathlib.Core.Path.{sym, ◌∙◌}
use Rattle.meaning.specs.ByteLayouts.{value}
use Rattle.fields.specs.Fields.{values_at}
use Rattle.slots.proofs.Frames.{Fits}
use Rattle.room.proofs.Live.{live-sorted}
use Rattle.action.proofs.One.{found_within, missing-update, update-can, updated-one, update-finds}
use Rattle.action.proofs.Whole.{not_short}
use Rattle.action.proofs.update_one.Goals as goal

pub find-requires : goal.find-requires
find-requires c =
    (omega arith, (c.requires.running.represents.laid.live, live-sorted c.requires.running.reached c.requires.running.represents))

pub returns-in_default : goal.returns-in_default
returns-in_default c =
    missing-update c.requires.running c.args.handle c.args.mask _ (sym c.find.ensures ∙ c.in_default.is)

pub slot_at-old-requires : goal.slot_at-old-requires
slot_at-old-requires c =
    (omega arith, (c.requires.running.represents.laid.live, found_within c.requires.running c.args.handle (sym c.find.ensures ∙ c.in-Some.is)))

pub with_values-new-requires-clause-fact : goal.with_values-new-requires-clause-fact
unfolding values_at
with_values-new-requires-clause-fact c =
    not_short value (ones c.args.mask) c.args.log.now c.args.values c.requires.values_len

pub update_row-requires-clause-sorted : goal.update_row-requires-clause-sorted
update_row-requires-clause-sorted c = live-sorted c.requires.running.reached c.requires.running.represents

pub update_row-requires-clause-can_join : goal.update_row-requires-clause-can_join
update_row-requires-clause-can_join c =
    let fits : Fits c.with_values-new.result =
    record {
      handle = omega arith;
      kind = omega arith;
      mask = omega arith;
      table = omega arith;
      v0 = omega arith;
      v1 = omega arith;
      v2 = omega arith;
      v3 = omega arith;
    } in
    update-can c.requires.running c.args.handle (values_at c.args.log.now (ones c.args.mask) c.args.values) _ c.requires.mask_bound c.low_byte.ensures
    (sym c.find.ensures ∙ c.in-Some.is)
    (rw c.slot_at-old.ensures at c.with_values-new.ensures) fits

pub returns-in_err-update_row : goal.returns-in_err-update_row
returns-in_err-update_row c =
    absurd
    (update-finds c.requires.running c.args.handle (values_at c.args.log.now (ones c.args.mask) c.args.values) _ c.requires.mask_bound c.low_byte.ensures
    (sym c.find.ensures ∙ c.in-Some.is)
    (rw c.slot_at-old.ensures at c.with_values-new.ensures) _ _ (rw c.in_err-update_row.was at c.update_row.ensures))

pub returns : goal.returns
returns c =
    let fits : Fits c.with_values-new.result =
    record {
      handle = omega arith;
      kind = omega arith;
      mask = omega arith;
      table = omega arith;
      v0 = omega arith;
      v1 = omega arith;
      v2 = omega arith;
      v3 = omega arith;
    } in
    updated-one c.requires.running c.args.handle (values_at c.args.log.now (ones c.args.mask) c.args.values) _ c.requires.mask_bound c.low_byte.ensures
    (sym c.find.ensures ∙ c.in-Some.is)
    (rw c.slot_at-old.ensures at c.with_values-new.ensures) fits
    (λ k. (c.type_inv.room k).fits) (rw c.in_ok-update_row.was at c.update_row.ensures)
