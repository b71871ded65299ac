-- `loading::empty_waits` meets its contract: before turn `k` nothing waits for the rules below `k`.
use Prim.Native.Nat.{◌<◌}
use native.Mathlib.Omega.{arith}
use Rattle.slots.specs.Slots.{table_bytes}
use Rattle.loading.proofs.Emptying.{upto-start, upto-more, upto_done}
use Rattle.loading.proofs.empty_waits.Goals as goal

pub loop-k-init : goal.loop-k-init
loop-k-init c = upto-start

pub loop-k-preserved : goal.loop-k-preserved
loop-k-preserved c =
    let within : c.loop-k.k < 16 = omega arith in
    upto-more _ c.loop-k.invariant within (rw c.wait.ensures at c.empty.ensures)

pub returns : goal.returns
returns c = upto_done _ c.loop-k.invariant (omega arith)

pub empty-requires : goal.empty-requires
unfolding table_bytes
empty-requires c =
    let within : c.loop-k.k < 16 = omega arith in
    (omega arith, rw c.wait.ensures (omega (arith, c.loop-k.invariant.frame.len)))
