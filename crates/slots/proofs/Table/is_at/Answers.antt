-- `slots::Table::is_at` meets its contract: the handle is asked for only within the table.
use borrow.Author.Tests.{lt-ltb, le-ltb}
use native.Mathlib.Omega.{arith}
use Prim.Native.Nat.{◌≤◌, ◌<◌}
use lib.ListN.{length}
use Rattle.slots.specs.Slots.{table_at, hit}
use Rattle.slots.proofs.Tables.{table-length}
use Rattle.slots.proofs.Table.is_at.Goals as goal

pub returns-then-i-size : goal.returns-then-i-size
unfolding hit
returns-then-i-size g c =
    let within : c.args.i < length (table_at c.args.room.now c.args.self.base) = omega (arith, table-length c.args.room.now c.args.self.base) in
    rw (lt-ltb _ _ within, c.handle_at.ensures)

pub returns-else-i-size : goal.returns-else-i-size
unfolding hit
returns-else-i-size g c =
    let past : length (table_at c.args.room.now c.args.self.base) ≤ c.args.i = omega (arith, table-length c.args.room.now c.args.self.base) in
    rw (le-ltb c.args.i c.size.result (omega arith), le-ltb _ _ past)
