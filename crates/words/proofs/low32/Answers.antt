-- `words::low32` meets its contract: the number of four bytes, the low byte first.
use native.Mathlib.Omega.{arith}
use Rattle.words.specs.Words.{low32_at}
use Rattle.words.proofs.low32.Goals as goal

pub returns : goal.returns
unfolding low32_at
returns c = omega (arith, c.from_le_bytes.ensures)
