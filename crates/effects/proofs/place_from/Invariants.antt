-- `effects::place_from` meets its contract: before each turn the place of the handle is not before `i`.
use Prim.Native.Nat.{◌≤◌}
use Rattle.slots.specs.Slots.{table_at, place_in}
use Rattle.effects.proofs.place_from.Given as goal

abbrev pub invariant-loop-i : goal.invariant-loop-i
invariant-loop-i l = l.i ≤ place_in l.handle (table_at l.room l.wait.base)
