-- `transaction::commits` meets its contract: each outcome's answer is the definition's.
use Rattle.transaction.specs.Handed.{committed}
use Rattle.transaction.proofs.Runs.{other-outcome}
use Rattle.transaction.proofs.commits.Goals as goal

pub returns-in-Commit : goal.returns-in-Commit
unfolding committed
returns-in-Commit c = rw c.in-Commit.is

pub returns-in_default : goal.returns-in_default
returns-in_default c = other-outcome _ c.in_default.not-Commit
