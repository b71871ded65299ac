-- `engine::check` meets its contract: each of its answers is what the specification says of such a book.
use Rattle.engine.proofs.Refused.{refused}
use Rattle.engine.proofs.Judged.{refused-malformed, told, without-order, output-short, check-malformed, check-cycle, check-rules}
use Rattle.engine.proofs.check.Goals as goal

pub returns-then-out-lt-CHECK : goal.returns-then-out-lt-CHECK
returns-then-out-lt-CHECK c =
    output-short c.args.book.now c.args.out.now c.if-out-lt-CHECK.true

pub returns-in_err-frame : goal.returns-in_err-frame
returns-in_err-frame c =
    let is = refused c.judge.result c.from_residual.result c.ok_or.ensures.value c.in_err-frame.was c.from_residual.ensures.1 in
    let malformed = refused-malformed c.args.book.now _ c.judge.ensures.result_value is.0 in
    rw is.1 (check-malformed c.args.book.now c.args.out.now c.if-out-lt-CHECK.false malformed)

pub returns-in_err-rules : goal.returns-in_err-rules
returns-in_err-rules c =
    let w = told c.args.book.now c.judge.ensures.told c.in_ok-frame.ensures.ok_part in
    let is =
    refused c.plan_of-plan.result.order c.from_residual-in_err-rules.result c.ok_or-2.ensures.value c.in_err-rules.was
    c.from_residual-in_err-rules.ensures.1 in
    let cycle = without-order c.args.book.now _ _ c.plan_of-plan.result w c.plan_of-plan.ensures is.0 in
    rw is.1 (check-cycle c.args.book.now c.args.out.now c.if-out-lt-CHECK.false cycle)

pub returns : goal.returns
returns c =
    let w = told c.args.book.now c.judge.ensures.told c.in_ok-frame.ensures.ok_part in
    let order = c.in_ok-rules.ensures.ok_part in
    check-rules c.args.book.now c.args.out.now _ _ c.plan_of-plan.result w c.plan_of-plan.ensures c.if-out-lt-CHECK.false order _
    c.put_numbers.ensures
