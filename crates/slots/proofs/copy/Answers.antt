-- `slots::copy` meets its contract: five words are read before the first is stored, and with the marks they are the six words of a slot.
use borrow.Author.Rules.{rules}
use native.Mathlib.Omega.{arith}
use Rattle.slots.proofs.Frames.{slot-copied}
use Rattle.slots.proofs.copy.Goals as goal

pub returns : goal.returns
returns c =
    slot-copied _ _ _ (search rules) (omega arith) c.requires.to_in_bounds
    c.low32-handle.ensures c.low32-v0.ensures c.low32-v1.ensures c.low32-v2.ensures c.low32-v3.ensures
    c.put_low32.ensures c.put_low32-2.ensures c.put_low32-3.ensures
    c.put_low32-4.ensures c.put_low32-5.ensures c.put_low32-6.ensures
