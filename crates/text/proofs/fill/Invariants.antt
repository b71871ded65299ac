-- `text::fill` meets its contract. The loop's invariant: what was read stands at the front of the bytes that are lent. The measure is how
-- many are left.
use Rattle.std.proofs.Common.{◌-◌, ◌≤◌, length, take}
use Rattle.std.specs.Io.KnownBytes.{Consumes}
use Rattle.text.proofs.fill.Given as goal

abbrev pub invariant-loop-done : goal.invariant-loop-done
invariant-loop-done g l =
    (l.done ≤ length l.to) × Consumes (g.R.Read.remaining l.initial.from) (g.R.Read.remaining l.from) (take l.done l.to)

abbrev pub decreases-loop-done : goal.decreases-loop-done
decreases-loop-done g l = length l.to - l.done
