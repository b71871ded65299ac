-- `effects::bring` meets its contract: before each turn the slots from `from` up to `i` stand at the end of the spare table.
use native.Mathlib.Omega.{arith}
use Rattle.effects.proofs.SpareTable.{bring-pushes, bring-step}
use Rattle.effects.proofs.bring.Goals as goal

pub push_from-requires : goal.push_from-requires
push_from-requires c =
    let pushes =
    bring-pushes c.requires.loom c.requires.to_bound c.loop-i.invariant c.requires.from_bound c.loop-i-test.true in
    (omega arith, (omega arith, pushes))

pub loop-i-preserved : goal.loop-i-preserved
loop-i-preserved c =
    bring-step c.requires.loom c.requires.to_bound c.loop-i.invariant c.loop-i-test.true c.push_from.ensures
