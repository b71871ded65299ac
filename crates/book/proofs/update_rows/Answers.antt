-- `book::update_rows` meets its contract: an expression for each set bit of the mask, where so many end.
use native.Mathlib.Omega.{arith}
use Rattle.meaning.specs.ByteLayouts.{update_rows, table, mask}
use Rattle.words.proofs.Laws.{ends-readable}
use Rattle.book.proofs.update_rows.Goals as goal

pub returns : goal.returns
unfolding update_rows table mask
returns c = grind (arith, ends-readable)
