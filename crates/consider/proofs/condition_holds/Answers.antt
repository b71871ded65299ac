-- `consider::condition_holds` meets its contract: an absent condition holds, and another one holds if its query yields a row.
use borrow.Author.Rules.{rules}
use Rattle.meaning.specs.Processing.{condition_holds}
use Rattle.consider.proofs.condition_holds.Goals as goal

pub returns-in-None : goal.returns-in-None
unfolding condition_holds
returns-in-None c = search rules

pub returns-in-Some : goal.returns-in-Some
unfolding condition_holds
returns-in-Some c = rw c.in-Some.is c.yields.ensures
