-- `plan::making::outline_of` meets its contract: its two ends are the two cases of a rule's own table, and what fits is a byte.
use borrow.Author.Rules.{rules}
use Rattle.book.specs.Books.{rule_of, head_rule}
use Rattle.plan.specs.Plans.{active_table}
use Rattle.plan.proofs.making.outline_of.Goals as goal

pub returns-then-head : goal.returns-then-head
unfolding active_table head_rule rule_of
returns-then-head c = search rules

pub returns-else-head : goal.returns-else-head
unfolding active_table head_rule rule_of
returns-else-head c = search rules
