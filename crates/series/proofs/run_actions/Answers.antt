-- `series::run_actions` meets its contract. The loop's invariant: the actions that are left, run from the room now on the transition tables
-- of the start, which it still has, do what all of them do from the room at the start.
use native.Mathlib.Omega.{arith}
use Rattle.meaning.specs.ByteLayouts.{action}
use Rattle.meaning.specs.Processing.{run_actions}
use Rattle.book.specs.Books.{actions_meant}
use Rattle.series.proofs.Parsed.{action-fits, action-read, action-unread}
use Rattle.series.proofs.Ranged.{transition-ranged}
use Rattle.series.proofs.Loops.{actions-series, left-start, left-done, left-bad, left-more, left-ends, action-makes}
use Rattle.series.proofs.run_actions.Goals as goal

pub loop-init : goal.loop-init
loop-init c = left-start (action _) (run_actions _) _ _ _ c.requires

pub perform-requires : goal.perform-requires
perform-requires c =
    let e = action-read c.args.book.now c.args.triggers c.loop.here c.action_at.ensures c.in-Some.is in
    record {
      running = c.loop.invariant.onward.running;
      fit_action = (action-fits c.args.triggers).fit e;
    }

pub returns-in_err-perform : goal.returns-in_err-perform
unfolding actions_meant
returns-in_err-perform c =
    let e = action-read c.args.book.now c.args.triggers c.loop.here c.action_at.ensures c.in-Some.is in
    left-ends (actions-series _) c.loop.invariant (omega arith) e
    (rw (c.loop.invariant.onward.shown, c.in_err-perform.was) at c.perform.ensures) _ c.from_residual.ensures.1

pub loop-preserved : goal.loop-preserved
loop-preserved c =
    let e = action-read c.args.book.now c.args.triggers c.loop.here c.action_at.ensures c.in-Some.is in
    let tables = transition-ranged c.args.room.now c.requires.represents.bytes in
    left-more (actions-series _) c.loop.invariant (omega arith) e
    (action-makes tables c.args.triggers c.args.book.now c.loop.here e)
    (rw (c.loop.invariant.onward.shown, c.in_ok-perform.was) at c.perform.ensures)

pub returns-in_default : goal.returns-in_default
unfolding actions_meant
returns-in_default c =
    left-bad (actions-series _) c.loop.invariant
    (action-unread c.args.book.now c.args.triggers c.loop.here c.action_at.ensures c.in_default.is)

pub returns : goal.returns
unfolding actions_meant
returns c = left-done (actions-series _) c.loop.invariant (omega arith)
