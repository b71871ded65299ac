-- `series::run_log` meets its contract. The loop's invariant: what is left of the log, run from the room now, does what all of it does from
-- the room at the start.
use Rattle.std.specs.Prelude.{◌≡◌, Ok}
use borrow.Author.Rules.{rules}
use native.Mathlib.Omega.{arith}
use Rattle.meaning.specs.ByteLayouts.{operation}
use Rattle.meaning.specs.Processing.{run_log}
use Rattle.series.proofs.Parsed.{operation-fits, operation-read, operation-unread}
use Rattle.series.proofs.Loops.{log-series, left-start, left-done, left-bad, left-more, left-ends, operation-makes}
use Rattle.series.proofs.run_log.Goals as goal

pub loop-init : goal.loop-init
loop-init c = left-start operation run_log _ _ 7 c.requires

pub operate-requires : goal.operate-requires
operate-requires c =
    let e = operation-read c.args.log.now c.loop.here c.operation_at.ensures c.in-Some.is in
    record {
      running = c.loop.invariant.onward.running;
      fit_operation = operation-fits.fit e;
    }

pub returns-in_err-operate : goal.returns-in_err-operate
returns-in_err-operate c =
    let e = operation-read c.args.log.now c.loop.here c.operation_at.ensures c.in-Some.is in
    left-ends log-series c.loop.invariant (omega arith) e (rw c.in_err-operate.was at c.operate.ensures) _ c.from_residual.ensures.1

pub loop-preserved : goal.loop-preserved
loop-preserved c =
    let e = operation-read c.args.log.now c.loop.here c.operation_at.ensures c.in-Some.is in
    let went : c.operate.result ≡ Ok tt = search rules in
    left-more log-series c.loop.invariant (omega arith) e (operation-makes c.args.log.now c.loop.here e)
    (rw went at c.operate.ensures)

pub returns-in_default : goal.returns-in_default
returns-in_default c =
    left-bad log-series c.loop.invariant (operation-unread c.args.log.now c.loop.here c.operation_at.ensures c.in_default.is)

pub returns : goal.returns
returns c = left-done log-series c.loop.invariant (omega arith)
