-- `order::next_ready` meets its contract: the code looks through the numbers as the definition does.
use mathlib.Core.Bool.{true, false}
use mathlib.Core.Path.{◌≡◌}
use Rattle.std.proofs.Common.{rules, tests}
use Rattle.std.proofs.lemmas.Iterator.{first_from_Range}
use Rattle.order.specs.Order.{may_go}
use Rattle.order.proofs.Numbers.{first-answered}
use Rattle.order.proofs.next_ready.Goals as goal

pub returns : goal.returns
returns c =
    let p = may_go c.args.masks c.args.taken c.args.n in
    first-answered p c.args.n c.find.result
    (first_from_Range _ _ _ _ (λ i. p i ≡ true) (λ i. p i ≡ false) c.find.ensures.ran
    (λ x q k. search (rules, tests))
    (λ x q k. search (rules, tests)))
