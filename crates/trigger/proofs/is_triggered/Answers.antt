-- `trigger::is_triggered` meets its contract: an inactive rule is not triggered; of an active one the plan says what wakes it.
use native.Mathlib.Omega.{arith}
use Rattle.trigger.proofs.Woken.{not-active, active-woken}
use Rattle.trigger.proofs.is_triggered.Goals as goal

pub returns-then-plan-k-gt3 : goal.returns-then-plan-k-gt3
returns-then-plan-k-gt3 c =
    not-active _ _ (c.requires.lists.placed _ c.requires.count_bound) c.if-plan-k-gt3.true

pub returns : goal.returns
returns c =
    active-woken _ _ (c.requires.lists.placed _ c.requires.count_bound) (c.requires.lists.watched _ c.requires.count_bound) (omega (arith, c.requires.count_bound, c.args.plan.now.few)) c.if-plan-k-gt3.false _
    c.wide.ensures.0 c.wide-2.ensures.0 c.wide-3.ensures.0 c.triggered.ensures
