-- `numbers::refusal` meets its contract: each refusal has its number.
use borrow.Author.Rules.{rules}
use Rattle.meaning.specs.EntryPoints.{refusal_number}
use Rattle.engine.specs.Answers.{refusal_meant}
use Rattle.numbers.proofs.refusal.Goals as goal

pub returns-in-Output : goal.returns-in-Output
unfolding refusal_number refusal_meant
returns-in-Output c = search rules

pub returns-in-Room : goal.returns-in-Room
unfolding refusal_number refusal_meant
returns-in-Room c = search rules

pub returns-in-Image : goal.returns-in-Image
unfolding refusal_number refusal_meant
returns-in-Image c = search rules

pub returns-in-Book : goal.returns-in-Book
unfolding refusal_number refusal_meant
returns-in-Book c = search rules

pub returns-in-Cycle : goal.returns-in-Cycle
unfolding refusal_number refusal_meant
returns-in-Cycle c = search rules

pub returns-in-Log : goal.returns-in-Log
unfolding refusal_number refusal_meant
returns-in-Log c = search rules
