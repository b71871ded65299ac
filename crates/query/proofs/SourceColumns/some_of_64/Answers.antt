-- `query::SourceColumns::some_of_64` meets its contract. The loop's invariant: there are hits where a row before j has what is wanted, and no
-- more than j.
use mathlib.Core.Path.{◌≡◌}
use native.Mathlib.Omega.{arith}
use Rattle.query.proofs.Columns.{differs-none, counting-start, counting-more}
use Rattle.query.proofs.SourceColumns.some_of_64.Goals as goal

pub loop-j-init : goal.loop-j-init
loop-j-init c = counting-start _

pub loop-j-preserved : goal.loop-j-preserved
loop-j-preserved c = counting-more c.loop-j.invariant (omega arith) _ (differs-none _ _ _ _ _ _)

pub returns : goal.returns
returns c =
    let all : c.loop-j.j ≡ 64 = omega (arith, c.loop-j.invariant.most) in
    rw (← all) c.loop-j.invariant.is
