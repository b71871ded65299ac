-- `order::all_passed` meets its contract: the code asks of each number what the definition asks.
use mathlib.Core.Bool.{true, false}
use mathlib.Core.Path.{◌≡◌, refl}
use Rattle.std.proofs.Common.{rules, tests}
use Rattle.std.proofs.lemmas.Iterator.{cases_from_all, YieldsList-from_range}
use Rattle.order.specs.Order.{passed, all_passed}
use Rattle.order.proofs.Numbers.{all-answered}
use Rattle.order.proofs.all_passed.Goals as goal

pub returns : goal.returns
unfolding all_passed
returns c =
    let p = passed c.args.mask c.args.taken in
    let numbers = YieldsList-from_range 0 c.args.n c.args.n refl (search rules) in
    all-answered p c.args.n c.all.result
    (cases_from_all _ _ _ (λ i. p i ≡ true) (λ i. p i ≡ false) c.all.ensures.ran numbers
    (λ x q k. search (rules, tests))
    (λ x q k. search (rules, tests)))
