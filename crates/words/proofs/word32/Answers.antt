-- `words::word32` meets its contract: the number of four bytes, the high byte first.
use Rattle.words.specs.Words.{word32_at}
use Rattle.words.proofs.word32.Goals as goal

pub returns : goal.returns
unfolding word32_at
returns c = c.from_be_bytes.ensures
