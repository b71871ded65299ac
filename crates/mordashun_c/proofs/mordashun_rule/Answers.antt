-- `mordashun_c::mordashun_rule` meets its contract: a book that is refused has no place for a rule, and any other the one that was found.
use Rattle.engine.proofs.Judged.{counts, uncounted}
use Rattle.mordashun_c.proofs.RulePlaces.{refused-nowhere, place-given}
use Rattle.mordashun_c.proofs.mordashun_rule.Goals as goal

pub place_in-requires : goal.place_in-requires
place_in-requires c =
    let rules = counts c.args.book.now c.rule_count.ensures c.in-Some.is in
    record { n_bound = rules.few; book_len_bound = rules.short }

pub returns-in-Some : goal.returns-in-Some
returns-in-Some c =
    place-given c.args.book.now c.args.k (counts c.args.book.now c.rule_count.ensures c.in-Some.is) c.place_in.ensures

pub returns-in-None : goal.returns-in-None
returns-in-None c =
    let refusal = uncounted c.args.book.now c.rule_count.ensures c.in-None.is in
    refused-nowhere c.args.book.now c.args.k refusal.0 refusal.1
