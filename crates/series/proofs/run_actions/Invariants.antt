-- `series::run_actions` meets its contract. The loop's invariant: the actions that are left, run from the room now on the transition tables
-- of the start, which it still has, do what all of them do from the room at the start.
use Rattle.meaning.specs.ByteLayouts.{action}
use Rattle.meaning.specs.Processing.{run_actions}
use Rattle.room.specs.Room.{transition_in}
use Rattle.series.proofs.Loops.{Left}
use Rattle.series.proofs.run_actions.Given as goal

abbrev pub invariant-loop : goal.invariant-loop
invariant-loop l =
    let all = l.fn.actions in
    Left (action l.triggers) (run_actions (transition_in l.initial.room)) l.book l.initial.room l.room all.count all.first
    l.counter l.here
