-- `mordashun_c::rules` meets its contract: few rules fit their bits.
use borrow.Author.Rules.{rules}
use Rattle.mordashun_c.specs.Answered.{check_word}
use Rattle.mordashun_c.proofs.rules.Goals as goal

pub returns : goal.returns
unfolding check_word
returns c = search rules
