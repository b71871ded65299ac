-- `transition::draw_updated` meets its contract: where the mask meets the rule's columns the held row and the live one join their tables,
-- and where it does not nothing is shown.
use mathlib.Core.Path.{◌∙◌}
use native.Mathlib.Omega.{arith}
use Rattle.slots.specs.Slots.{table_bytes}
use Rattle.room.specs.Room.{watch_rule, live_rows}
use Rattle.transition.specs.Shown.{slot_in}
use Rattle.transition.proofs.Lookups.{rows-kept, still-live}
use Rattle.transition.proofs.Effects.{meets-is, tells-updated, tells-missed, room-below, shown-updated, shown-nowhere}
use Rattle.transition.proofs.draw_updated.Goals as goal

pub draw_held-requires : goal.draw_held-requires
draw_held-requires c =
    let tells = tells-updated (watch_rule c.args.rule) (live_rows c.args.room.now) (slot_in c.args.room.now c.args.wait.base c.args.i) c.requires.i_value
    (meets-is _ c.mask_at.ensures c.meet.ensures ∙ c.if-not-meet.false) in
    (omega arith, (c.requires.stands, (c.requires.i_bound, rw tells.old at c.requires.room_for_all.old)))

pub draw_live-requires : goal.draw_live-requires
unfolding table_bytes
draw_live-requires c =
    let tells = tells-updated (watch_rule c.args.rule) (live_rows c.args.room.now) (slot_in c.args.room.now c.args.wait.base c.args.i) c.requires.i_value
    (meets-is _ c.mask_at.ensures c.meet.ensures ∙ c.if-not-meet.false) in
    let room = room-below c.draw_held.ensures.frame (rw tells.new at c.requires.room_for_all.new) (omega arith) in
    record {
      live_rises = still-live c.draw_held.ensures.frame (omega arith) c.requires.live_rises;
      room_for = rw (rows-kept c.draw_held.ensures.frame (omega arith) c.requires.live_rises.stands, c.handle_at-handle.ensures) room;
    }

pub returns-then-not-meet : goal.returns-then-not-meet
returns-then-not-meet c =
    shown-nowhere c.requires.room_for_all
    (tells-missed _ _ _ c.requires.i_value (meets-is _ c.mask_at.ensures c.meet.ensures ∙ c.if-not-meet.true))

pub returns : goal.returns
returns c =
    shown-updated c.requires.room_for_all
    (tells-updated _ _ _ c.requires.i_value (meets-is _ c.mask_at.ensures c.meet.ensures ∙ c.if-not-meet.false))
    c.draw_held.ensures
    (rw (rows-kept c.draw_held.ensures.frame (omega arith) c.requires.live_rises.stands, c.handle_at-handle.ensures) at c.draw_live.ensures)
