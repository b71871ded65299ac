-- `processing::steps` meets its contract: before each turn, what the rest ends as is what the whole ends as.
use mathlib.Core.Path.{refl, ◌∙◌}
use native.Mathlib.Omega.{arith}
use Rattle.processing.proofs.Going.{going-quiet, going-limit, going-below, going-active, going-ends, going_on}
use Rattle.processing.proofs.steps.Goals as goal

pub returns-in_default : goal.returns-in_default
returns-in_default c =
    going-quiet c.loop-b.invariant c.next_rule.ensures c.in_default.is c.ending.ensures

pub consider-requires-clause-count_bound : goal.consider-requires-clause-count_bound
consider-requires-clause-count_bound c =
    going-below c.loop-b.invariant c.next_rule.ensures c.in-Some.is

pub consider-requires-clause-k_bound : goal.consider-requires-clause-k_bound
consider-requires-clause-k_bound c =
    going-active c.loop-b.invariant c.next_rule.ensures c.in-Some.is c.requires.lists

pub returns-in-Err : goal.returns-in-Err
returns-in-Err c =
    let told = c.ending-in-Err.ensures in
    going-ends c.loop-b.invariant c.next_rule.ensures c.in-Some.is c.requires.lists (omega arith)
    c.consider.ensures c.spent-b.ensures.0 c.in-Err.is (told.0 ∙ c.into.ensures, told.1)

pub loop-b-preserved : goal.loop-b-preserved
loop-b-preserved c =
    going_on c.loop-b.invariant c.next_rule.ensures c.in-Some.is c.requires.lists (omega arith)
    c.consider.ensures c.spent-b.ensures.0 c.in_default-consider.is _ refl c.spent-b.ensures.1

pub returns-in-None : goal.returns-in-None
returns-in-None c =
    going-quiet c.loop-b.invariant c.next_rule-2.ensures c.in-None.is c.ending-in-None.ensures

pub returns-in-Some-next_rule : goal.returns-in-Some-next_rule
returns-in-Some-next_rule c =
    going-limit c.loop-b.invariant c.next_rule-2.ensures c.in-Some-next_rule.is (omega arith) c.ending-in-Some-next_rule.ensures
