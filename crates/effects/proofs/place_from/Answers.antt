-- `effects::place_from` meets its contract: before each turn the place of the handle is not before `i`.
use native.Mathlib.Omega.{arith}
use Rattle.slots.specs.Slots.{table_bytes}
use Rattle.effects.proofs.Weaving.{place_here, place-later, place-last}
use Rattle.effects.proofs.place_from.Goals as goal

pub size-n-requires : goal.size-n-requires
unfolding table_bytes
size-n-requires c = (omega arith, omega (arith, c.requires.stands.fits))

pub returns-then-handle-handle_at : goal.returns-then-handle-handle_at
returns-then-handle-handle_at c =
    place_here _ _ _ _ c.loop-i.invariant (omega (arith, c.handle_at.ensures))

pub loop-i-preserved : goal.loop-i-preserved
loop-i-preserved c =
    place-later _ _ _ _ c.loop-i.invariant c.size-n.ensures (omega arith) (omega (arith, c.handle_at.ensures))

pub returns : goal.returns
returns c =
    place-last _ _ _ _ c.loop-i.invariant c.size-n.ensures c.loop-i-test.false
