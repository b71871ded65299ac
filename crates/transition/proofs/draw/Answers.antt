-- `transition::draw` meets its contract: before each turn the four tables show what the effects before this one show, and there is room
-- for what this one does; then what waited is emptied.
use native.Mathlib.Omega.{arith}
use Rattle.transition.proofs.Drawing.{draw-start, draw-live, draw-wait, draw-within, draw-ready, draw-step, draw-done}
use Rattle.transition.proofs.draw.Goals as goal

pub loop-i-init : goal.loop-i-init
loop-i-init c =
    draw-start _ c.requires.laid c.requires.k_bound c.requires.sorted c.requires.few c.empty_tables.ensures

pub draw_one-near-requires : goal.draw_one-near-requires
draw_one-near-requires c =
    let size = rw c.wait-wait.ensures at c.size-i-end.ensures in
    rw c.wait-wait.ensures
    (record {
      stands = draw-wait _ _ c.loop-i.invariant;
      i_bound = draw-within _ _ c.loop-i.invariant (omega (arith, size));
      live_rises = draw-live _ _ c.loop-i.invariant;
      room_for_all = draw-ready _ _ c.loop-i.invariant (omega (arith, size));
    })

pub loop-i-preserved : goal.loop-i-preserved
loop-i-preserved c =
    let size = rw c.wait-wait.ensures at c.size-i-end.ensures in
    draw-step _ _ c.loop-i.invariant (omega (arith, size)) (rw c.wait-wait.ensures at c.draw_one-near.ensures)

pub returns : goal.returns
returns c =
    let size = rw c.wait-wait.ensures at c.size-i-end.ensures in
    draw-done _ _ c.requires.laid c.empty_tables.ensures c.loop-i.invariant
    (omega (arith, size)) (rw c.wait-wait.ensures at c.empty.ensures)
