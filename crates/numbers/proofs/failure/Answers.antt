-- `numbers::failure` meets its contract: each reason has its number.
use borrow.Author.Rules.{rules}
use Rattle.meaning.specs.EntryPoints.{failure_number}
use Rattle.numbers.proofs.failure.Goals as goal

pub returns-in-NoSuchRow : goal.returns-in-NoSuchRow
unfolding failure_number
returns-in-NoSuchRow c = search rules

pub returns-in-Full : goal.returns-in-Full
unfolding failure_number
returns-in-Full c = search rules

pub returns-in-HandlesUsedUp : goal.returns-in-HandlesUsedUp
unfolding failure_number
returns-in-HandlesUsedUp c = search rules

pub returns-in-SumOutOfRange : goal.returns-in-SumOutOfRange
unfolding failure_number
returns-in-SumOutOfRange c = search rules
