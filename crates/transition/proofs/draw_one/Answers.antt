-- `transition::draw_one` meets its contract: each kind of effect shows its rows in its own tables, and no other number is a kind that
-- shows any.
use native.Mathlib.Omega.{arith}
use mathlib.Core.Path.{sym, ◌∙◌}
use Rattle.room.specs.Room.{watch_rule, live_rows}
use Rattle.transition.specs.Shown.{slot_in}
use Rattle.transition.proofs.Effects.{tells-inserted, tells-deleted, tells-nothing, shown-inserted, shown-deleted, shown-nowhere}
use Rattle.transition.proofs.draw_one.Goals as goal

pub draw_live-requires : goal.draw_live-requires
draw_live-requires c =
    let tells = tells-inserted (watch_rule c.args.rule) (live_rows c.args.room.now) (slot_in c.args.room.now c.args.wait.base c.args.i)
    (sym c.kind_at.ensures ∙ c.in-1.is) in
    record {
      live_rises = c.requires.live_rises;
      room_for = rw c.handle_at-handle.ensures (rw tells.inserted at c.requires.room_for_all.inserted);
    }

pub draw_held-requires : goal.draw_held-requires
draw_held-requires c =
    let tells = tells-deleted (watch_rule c.args.rule) (live_rows c.args.room.now) (slot_in c.args.room.now c.args.wait.base c.args.i)
    (sym c.kind_at.ensures ∙ c.in-2.is) in
    (omega arith, (c.requires.stands, (c.requires.i_bound, rw tells.deleted at c.requires.room_for_all.deleted)))

pub returns-in-1 : goal.returns-in-1
returns-in-1 c =
    shown-inserted c.requires.room_for_all
    (tells-inserted _ _ _ (sym c.kind_at.ensures ∙ c.in-1.is))
    (rw c.handle_at-handle.ensures at c.draw_live.ensures)

pub returns-in-2 : goal.returns-in-2
returns-in-2 c =
    shown-deleted c.requires.room_for_all
    (tells-deleted _ _ _ (sym c.kind_at.ensures ∙ c.in-2.is)) c.draw_held.ensures

pub returns-in_default : goal.returns-in_default
returns-in_default c =
    shown-nowhere c.requires.room_for_all
    (tells-nothing _ _ _ (λ q. omega arith) (λ q. omega arith) (λ q. omega arith))
