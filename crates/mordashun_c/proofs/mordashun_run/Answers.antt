-- `mordashun_c::mordashun_run` meets its contract: the engine's answer is the specification's, and the word is that of the answer.
use Rattle.engine.specs.Answers.{answer_meant}
use Rattle.engine.proofs.Counted.{ran-counted}
use Rattle.mordashun_c.specs.Answered.{answer_word}
use Rattle.mordashun_c.proofs.Words.{run-answered}
use Rattle.mordashun_c.proofs.mordashun_run.Goals as goal

pub ran-requires : goal.ran-requires
ran-requires c =
    ran-counted (rw c.in-Ok.is at c.run.ensures)

pub returns-in-Err : goal.returns-in-Err
unfolding answer_meant answer_word
returns-in-Err c =
    run-answered c.run.ensures (rw c.in-Err.is c.refused.ensures)

pub returns-in-Ok : goal.returns-in-Ok
unfolding answer_meant
returns-in-Ok c =
    run-answered c.run.ensures (rw c.in-Ok.is c.ran.ensures)
