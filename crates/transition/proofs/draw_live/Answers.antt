-- `transition::draw_live` meets its contract: the slot that is found among the live rows, if one is, is that of the row that is asked for.
use mathlib.Core.Path.{sym, ◌∙◌}
use native.Mathlib.Omega.{arith}
use Rattle.transition.proofs.Lookups.{live_below, live-found, live-nowhere}
use Rattle.transition.proofs.Effects.{nothing-added}
use Rattle.transition.proofs.draw_live.Goals as goal

pub returns-in_default : goal.returns-in_default
returns-in_default c =
    rw (live-nowhere _ _ _ c.requires.live_rises.sorted (sym c.find_near.ensures ∙ c.in_default.is))
    (nothing-added c.requires.room_for.stands)

pub draw_held-requires : goal.draw_held-requires
draw_held-requires c =
    let here = sym c.find_near.ensures ∙ c.in-Some.is in
    let room = rw (live-found _ _ _ c.requires.live_rises.sorted here) at c.requires.room_for in
    (omega arith, (c.requires.live_rises.stands, (live_below _ _ here, room)))

pub overflow_add-result : goal.overflow_add-result
overflow_add-result c =
    omega (arith, live_below _ _ (sym c.find_near.ensures ∙ c.in-Some.is), c.requires.live_rises.stands.size)

pub returns : goal.returns
returns c =
    rw (live-found _ _ _ c.requires.live_rises.sorted (sym c.find_near.ensures ∙ c.in-Some.is)) c.draw_held.ensures
