-- `order::is_passed` meets its contract: its test is the definition's, case by case.
use mathlib.Core.Path.{sym, ◌∙◌}
use Rattle.order.specs.Order.{passed}
use Rattle.order.proofs.is_passed.Goals as goal

pub returns-then-not-has_bit : goal.returns-then-not-has_bit
unfolding passed
returns-then-not-has_bit c = rw (c.if-not-has_bit.true, sym c.has_bit.ensures ∙ c.if-not-has_bit.true)

pub returns-else-not-has_bit : goal.returns-else-not-has_bit
unfolding passed
returns-else-not-has_bit c = rw (sym c.has_bit.ensures ∙ c.if-not-has_bit.false)
