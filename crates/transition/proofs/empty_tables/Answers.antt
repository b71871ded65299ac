-- `transition::empty_tables` meets its contract: each table is emptied, and the ones after it are written outside it.
use native.Mathlib.Omega.{arith}
use Rattle.slots.specs.Slots.{table_bytes}
use Rattle.transition.proofs.Drawing.{all-emptied}
use Rattle.transition.proofs.empty_tables.Goals as goal

pub returns : goal.returns
returns c =
    all-emptied c.empty.ensures c.empty-2.ensures c.empty-3.ensures c.empty-4.ensures

pub empty-requires : goal.empty-requires
unfolding table_bytes
empty-requires c = omega arith

pub empty-requires-2 : goal.empty-requires-2
unfolding table_bytes
empty-requires-2 c = omega arith

pub empty-requires-3 : goal.empty-requires-3
unfolding table_bytes
empty-requires-3 c = omega arith

pub empty-requires-4 : goal.empty-requires-4
unfolding table_bytes
empty-requires-4 c = omega arith
