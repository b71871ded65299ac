-- `order::predecessors` meets its contract. The loop's invariant: the masks of the rules before j are in place.
use Rattle.order.proofs.Masks.{MasksBefore}
use Rattle.order.proofs.predecessors.Given as goal

abbrev pub invariant-loop-j : goal.invariant-loop-j
invariant-loop-j l = MasksBefore l.precedes l.n l.j l.masks
