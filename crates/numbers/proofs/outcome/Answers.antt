-- `numbers::outcome` meets its contract: each outcome has its number.
use borrow.Author.Rules.{rules}
use Rattle.meaning.specs.EntryPoints.{outcome_number}
use Rattle.numbers.proofs.outcome.Goals as goal

pub returns-in-Commit : goal.returns-in-Commit
unfolding outcome_number
returns-in-Commit c = search rules

pub returns-in-RolledBack : goal.returns-in-RolledBack
unfolding outcome_number
returns-in-RolledBack c = search rules

pub returns-in-StepLimit : goal.returns-in-StepLimit
unfolding outcome_number
returns-in-StepLimit c = search rules

pub returns-in-Failed : goal.returns-in-Failed
unfolding outcome_number
returns-in-Failed c = search rules
