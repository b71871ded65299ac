-- `plan::making::outline_at` meets its contract: what the decoder read is the rule, whose head is that rule's and fits.
use Rattle.book.specs.Books.{rule_meant, rule_of}
use Rattle.plan.proofs.Fits.{rule_fits}
use Rattle.plan.proofs.Planning.{rule-read, outlined}
use Rattle.plan.proofs.making.outline_at.Goals as goal

pub outline_of-requires : goal.outline_of-requires
unfolding rule_meant rule_of
outline_of-requires c =
    let fits = rule_fits _ c.args.s.now _ (rule-read c.args.s.now c.rule_at.ensures c.in-Some.is) in
    (fits.table, fits.triggers, fits.columns)

pub returns-in-Some : goal.returns-in-Some
returns-in-Some c = outlined c.args.s.now c.rule_at.ensures c.in-Some.is c.outline_of.ensures

pub returns-in-None : goal.returns-in-None
returns-in-None c = rw (← c.rule_at.ensures, c.in-None.is) tt
