-- `engine::rule_count` meets its contract: a book has a count of rules where its judge and its plan refuse nothing.
use Rattle.engine.specs.Answers.{rule_count_in}
use Rattle.engine.proofs.Judged.{refused-malformed, told, without-order, with-order, rules-counted}
use Rattle.engine.proofs.rule_count.Goals as goal

pub returns-in_err-frame : goal.returns-in_err-frame
unfolding rule_count_in
returns-in_err-frame c =
    rw (refused-malformed c.args.book.now _ c.judge.ensures.result_value c.in_err-frame.was) c.from_residual.ensures

pub returns-in_err-_rules : goal.returns-in_err-_rules
unfolding rule_count_in
returns-in_err-_rules c =
    let w = told c.args.book.now c.judge.ensures.told c.in_ok-frame.was in
    rw (without-order c.args.book.now _ _ c.plan_of-plan.result w c.plan_of-plan.ensures c.in_err-_rules.was)
    c.from_residual-in_err-_rules.ensures

pub returns : goal.returns
unfolding rule_count_in
returns c =
    let w = told c.args.book.now c.judge.ensures.told c.in_ok-frame.was in
    let accepted = with-order c.args.book.now _ _ c.plan_of-plan.result w c.plan_of-plan.ensures c.in_ok-_rules.was in
    rw (accepted, rules-counted c.args.book.now _ _ c.plan_of-plan.result w c.plan_of-plan.ensures)
