-- `order::predecessors_of` meets its contract. The loop's invariant: the mask holds the bits of the rules from i on.
use native.Mathlib.Omega.{arith}
use Rattle.order.proofs.Masks.{one-bit-more}
use Rattle.order.proofs.predecessors_of.Goals as goal

pub loop-i-preserved : goal.loop-i-preserved
loop-i-preserved c = one-bit-more _ _ _ _ _ _ (omega arith) c.loop-i.invariant c.bit_at.ensures
