-- `book::rule_bytes` meets its contract: the bytes of rule k are those of its span.
use Rattle.book.proofs.Laws.{bytes_in, rule-bytes}
use Rattle.book.proofs.rule_bytes.Goals as goal

pub returns-in-Some : goal.returns-in-Some
unfolding bytes_in
returns-in-Some c = rw (← rule-bytes c.args.s.now c.args.n c.args.k, ← c.rule_span.ensures.span, c.in-Some.is)

pub returns-in-None : goal.returns-in-None
unfolding bytes_in
returns-in-None c = rw (← rule-bytes c.args.s.now c.args.n c.args.k, ← c.rule_span.ensures.span, c.in-None.is)
