-- `order::predecessors_of` meets its contract. The loop's invariant: the mask holds the bits of the rules from i on.
use Rattle.order.proofs.Masks.{MaskFrom}
use Rattle.order.proofs.predecessors_of.Given as goal

abbrev pub invariant-loop-i : goal.invariant-loop-i
invariant-loop-i l = MaskFrom l.precedes l.n l.j l.i l.mask
