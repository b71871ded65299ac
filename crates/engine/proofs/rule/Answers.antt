-- `engine::rule` meets its contract: a book that is refused has no bytes of a rule, and any other those that its finder gives.
use Rattle.engine.proofs.Judged.{counts, uncounted, no-rule, rule-given}
use Rattle.engine.proofs.rule.Goals as goal

pub rule_bytes-requires : goal.rule_bytes-requires
rule_bytes-requires c = (counts c.args.book.now c.rule_count.ensures c.in-Some.is).few

pub returns-in-Some : goal.returns-in-Some
returns-in-Some c =
    rule-given c.args.book.now c.args.k (counts c.args.book.now c.rule_count.ensures c.in-Some.is) c.rule_bytes.ensures

pub returns-in-None : goal.returns-in-None
returns-in-None c =
    let refusal = uncounted c.args.book.now c.rule_count.ensures c.in-None.is in
    no-rule c.args.book.now c.args.k refusal.0 refusal.1
