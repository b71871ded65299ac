-- `effects::wakes` meets its contract: another table's slot wakes no rule, and of its own table's the kind says what to ask.
use native.Mathlib.Omega.{arith}
use mathlib.Core.Path.{sym, ◌∙◌}
use Rattle.effects.proofs.Waking.{wakes-other, wakes-inserted, wakes-deleted, wakes-updated, wakes-not-updated, wakes-nothing}
use Rattle.effects.proofs.wakes.Goals as goal

pub returns-then-wide-rule : goal.returns-then-wide-rule
returns-then-wide-rule c =
    wakes-other _ _ (λ q. c.if-wide-rule.true (c.wide.ensures.0 ∙ q))

pub returns-then-has_bit : goal.returns-then-has_bit
returns-then-has_bit c =
    c.meet.ensures ∙ rw c.wide-then-has_bit.ensures.0
    (wakes-updated _ _ (sym c.wide.ensures.0 ∙ c.if-wide-rule.false) c.in-3.is (sym c.has_bit-in-3.ensures ∙ c.if-has_bit.true))

pub returns-in-1 : goal.returns-in-1
returns-in-1 c =
    c.has_bit.ensures ∙ wakes-inserted _ _ (sym c.wide.ensures.0 ∙ c.if-wide-rule.false) c.in-1.is

pub returns-in-2 : goal.returns-in-2
returns-in-2 c =
    c.has_bit-in-2.ensures ∙ wakes-deleted _ _ (sym c.wide.ensures.0 ∙ c.if-wide-rule.false) c.in-2.is

pub returns-else-has_bit : goal.returns-else-has_bit
returns-else-has_bit c =
    c.if-has_bit.false
    ∙ wakes-not-updated _ _ (sym c.wide.ensures.0 ∙ c.if-wide-rule.false) c.in-3.is (sym c.has_bit-in-3.ensures ∙ c.if-has_bit.false)

pub returns-in_default : goal.returns-in_default
returns-in_default c =
    wakes-nothing _ _ (omega arith) (omega arith) (omega arith)
