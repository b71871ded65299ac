-- `slots::Table::remove_at` meets its contract: the slots after the place move down to it, and the size counts one less.
use borrow.Author.Rules.{rules}
use Prim.Native.Nat.{◌<◌}
use native.Mathlib.Omega.{arith}
use Rattle.words.proofs.Laws.{low32-lt}
use Rattle.slots.specs.Slots.{table_bytes}
use Rattle.slots.proofs.Frames.{word-put}
use Rattle.slots.proofs.Tables.{removed}
use Rattle.slots.proofs.Table.remove_at.Goals as goal

pub returns : goal.returns
unfolding table_bytes
returns g c =
    let small : c.size-n.result < 4294967296 = rw c.size-n.ensures (low32-lt _ (search rules) _) in
    removed _ _ _ _ c.requires.stands c.size-n.ensures (omega arith) (rw c.at.ensures at c.move_down.ensures)
    (word-put _ _ (omega arith) (omega arith) c.put_low32.ensures)

pub overflow_cast-n : goal.overflow_cast-n
overflow_cast-n g c =
    let small : c.size-n.result < 4294967296 = rw c.size-n.ensures (low32-lt _ (search rules) _) in
    omega arith
