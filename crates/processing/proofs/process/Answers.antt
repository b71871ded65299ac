-- `processing::process` meets its contract: the log ends the run, or leads to a state from which the steps end it.
use mathlib.Core.Path.{◌∙◌}
use Rattle.processing.proofs.Logged.{starts-running, log-ends, log-midway, log-on}
use Rattle.processing.proofs.process.Goals as goal

pub run_log-requires : goal.run_log-requires
run_log-requires c = starts-running _ c.requires.starts

pub returns-in-Err : goal.returns-in-Err
returns-in-Err c =
    log-ends _ _ _ _ c.run_log.ensures _ c.in-Err.is (c.ending.ensures.0 ∙ c.into.ensures, c.ending.ensures.1)

pub steps-requires-clause-midway : goal.steps-requires-clause-midway
steps-requires-clause-midway c =
    log-midway c.args.book.now c.args.log.now c.args.plan.now c.args.operations c.run_log.ensures c.in_default.is c.requires.starts

pub returns : goal.returns
returns c = log-on _ _ _ _ c.run_log.ensures c.in_default.is c.steps.ensures
