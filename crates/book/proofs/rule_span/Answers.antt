-- `book::rule_span` meets its contract: a rule that was read stands in the slice.
use Rattle.book.proofs.Inside.{rule-ends}
use Rattle.book.proofs.rule_span.Goals as goal

pub returns-clause-inside : goal.returns-clause-inside
returns-clause-inside c =
    let ends = rule-ends c.args.n c.args.s.now c.in_ok-start.start c.rule_at.ensures c.in_ok-end.was in
    record { rises = ends.0; ends = ends.1 }
