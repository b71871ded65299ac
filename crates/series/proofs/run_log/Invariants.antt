-- `series::run_log` meets its contract. The loop's invariant: what is left of the log, run from the room now, does what all of it does from
-- the room at the start.
use Rattle.meaning.specs.ByteLayouts.{operation}
use Rattle.meaning.specs.Processing.{run_log}
use Rattle.series.proofs.Loops.{Left}
use Rattle.series.proofs.run_log.Given as goal

abbrev pub invariant-loop : goal.invariant-loop
invariant-loop l = Left operation run_log l.log l.initial.room l.room l.fn.count 7 l.counter l.here
