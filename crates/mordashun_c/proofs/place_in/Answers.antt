-- `mordashun_c::place_in` meets its contract: the word is that of where rule k stands in the book, and the book is short.
use Rattle.mordashun_c.proofs.RulePlaces.{span-found, span-missing}
use Rattle.mordashun_c.proofs.place_in.Goals as goal

pub returns-in-Some : goal.returns-in-Some
returns-in-Some c =
    span-found c.args.book.now c.args.n c.args.k c.rule_span.ensures.span c.in-Some.is c.in-Some.ensures.inside.ends c.place.ensures

pub returns-in-None : goal.returns-in-None
returns-in-None c = span-missing c.args.book.now c.args.n c.args.k c.rule_span.ensures.span c.in-None.is
