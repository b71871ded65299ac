-- `processing::next_rule` meets its contract: once what was done joined what waits, all is settled, and the rule that is found is the first
-- triggered one.
use borrow.Author.Rules.{rules}
use Rattle.processing.proofs.Looking.{midway-settleable, looks}
use Rattle.processing.proofs.next_rule.Goals as goal

pub settle-requires : goal.settle-requires
settle-requires c = midway-settleable c.requires.midway

pub returns : goal.returns
returns c =
    looks (search rules) c.settle.ensures c.first_triggered.ensures
