-- `slots::Table::put_tail` meets its contract: the other table's slots are copied after the first ones, and then the size counts both.
use mathlib.Core.Path.{◌≡◌}
use Prim.Native.Nat.{◌+◌}
use native.Mathlib.Omega.{arith}
use Rattle.slots.specs.Slots.{table_bytes}
use Rattle.slots.proofs.Frames.{word-put}
use Rattle.slots.proofs.Tables.{tailed}
use Rattle.slots.proofs.Table.put_tail.Goals as goal

pub returns : goal.returns
unfolding table_bytes
returns g c =
    let start : c.at.result ≡ c.args.from.base + 4 = omega (arith, c.at.ensures) in
    tailed _ _ _ _ _ c.requires.stands c.size-n.ensures (omega arith) (omega arith) (rw (start, c.at-2.ensures) at c.copy_bytes.ensures)
    (word-put _ _ (omega arith) (omega arith) c.put_low32.ensures)
