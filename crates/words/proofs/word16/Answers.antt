-- `words::word16` meets its contract: the number of two bytes, the high byte first.
use Rattle.words.specs.Words.{word16_at}
use Rattle.words.proofs.word16.Goals as goal

pub returns : goal.returns
unfolding word16_at
returns c = (c.from_be_bytes.ensures, c.from_be_bytes.type_inv)
