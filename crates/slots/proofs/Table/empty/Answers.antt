-- `slots::Table::empty` meets its contract: a table whose size is 0 holds no slot.
use mathlib.Core.Path.{refl}
use native.Mathlib.Omega.{arith}
use Rattle.slots.specs.Slots.{slots_from, table_bytes}
use Rattle.slots.proofs.Frames.{word-put}
use Rattle.slots.proofs.Tables.{resized}
use Rattle.slots.proofs.Table.empty.Goals as goal

pub returns : goal.returns
unfolding slots_from table_bytes
returns g c =
    resized _ _ _ (word-put _ _ (omega arith) (omega arith) c.put_low32.ensures) (omega arith) c.requires refl
