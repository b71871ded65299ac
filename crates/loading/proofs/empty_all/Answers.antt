-- `loading::empty_all` meets its contract: the tables are emptied in the order of their places, each outside those before it.
use native.Mathlib.Omega.{arith}
use Rattle.slots.specs.Slots.{table_bytes}
use Rattle.loading.proofs.Emptying.{all-emptied}
use Rattle.loading.proofs.empty_all.Goals as goal

pub empty-requires : goal.empty-requires
unfolding table_bytes
empty-requires c = (omega arith, omega arith)

pub empty-requires-2 : goal.empty-requires-2
unfolding table_bytes
empty-requires-2 c = (omega arith, omega arith)

pub empty-requires-3 : goal.empty-requires-3
unfolding table_bytes
empty-requires-3 c = (omega arith, omega arith)

pub empty-requires-4 : goal.empty-requires-4
unfolding table_bytes
empty-requires-4 c = (omega arith, omega arith)

pub returns : goal.returns
returns c =
    all-emptied c.requires c.empty.ensures c.empty_tables.ensures c.empty-2.ensures
    c.empty-3.ensures c.empty_waits.ensures c.empty-4.ensures
