-- `lines::put_numbers` meets its contract. The loop's invariant: the numbers before the index are put.
use native.Mathlib.Omega.{arith}
use Rattle.lines.proofs.Numbers.{spaced-none, spaced-room, spaced-next, spaced-all}
use Rattle.lines.proofs.put_numbers.Goals as goal

pub loop-n-init : goal.loop-n-init
loop-n-init g c = spaced-none _ _ _ _ _

pub put_bytes-here-requires : goal.put_bytes-here-requires
put_bytes-here-requires g c = omega (arith, spaced-room _ _ _ c.loop-n.invariant (omega arith) c.requires)

pub put_number-here-requires : goal.put_number-here-requires
put_number-here-requires g c = omega (arith, spaced-room _ _ _ c.loop-n.invariant (omega arith) c.requires, c.put_bytes-here.ensures.near, c.put_bytes-here.ensures.kept)

pub loop-n-preserved : goal.loop-n-preserved
loop-n-preserved g c =
    spaced-next _ _ _ c.loop-n.invariant (omega arith) c.n-item.result c.n-item.is c.put_bytes-here.ensures c.put_number-here.ensures

pub returns : goal.returns
returns g c = spaced-all _ _ _ c.loop-n.invariant (omega arith)
