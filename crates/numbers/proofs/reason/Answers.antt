-- `numbers::reason` meets its contract: only a failed operation has a reason.
use borrow.Author.Rules.{rules}
use Rattle.meaning.specs.EntryPoints.{reason_number}
use Rattle.numbers.proofs.reason.Goals as goal

pub returns-in-Commit : goal.returns-in-Commit
unfolding reason_number
returns-in-Commit c = search rules

pub returns-in-RolledBack : goal.returns-in-RolledBack
unfolding reason_number
returns-in-RolledBack c = search rules

pub returns-in-StepLimit : goal.returns-in-StepLimit
unfolding reason_number
returns-in-StepLimit c = search rules

pub returns-in-Failed : goal.returns-in-Failed
unfolding reason_number
returns-in-Failed c = rw c.in-Failed.is c.failure.ensures
