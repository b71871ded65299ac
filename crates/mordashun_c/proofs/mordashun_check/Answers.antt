-- `mordashun_c::mordashun_check` meets its contract: the engine's answer is the specification's, and the word is that of the answer.
use Rattle.engine.specs.Answers.{check_meant}
use Rattle.mordashun_c.specs.Answered.{check_word}
use Rattle.mordashun_c.proofs.Few.{checks-few}
use Rattle.mordashun_c.proofs.Words.{check-answered}
use Rattle.mordashun_c.proofs.mordashun_check.Goals as goal

pub rules-requires : goal.rules-requires
rules-requires c = checks-few (rw c.in-Ok.is at c.check.ensures)

pub returns-in-Err : goal.returns-in-Err
unfolding check_meant check_word
returns-in-Err c =
    check-answered c.check.ensures (rw c.in-Err.is c.refused.ensures)

pub returns-in-Ok : goal.returns-in-Ok
unfolding check_meant
returns-in-Ok c =
    check-answered c.check.ensures (rw c.in-Ok.is c.rules.ensures)
