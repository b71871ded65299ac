-- `engine::run` meets its contract: each of its answers is what the specification says of such inputs.
use lib.ListN.{length}
use native.Mathlib.Omega.{arith}
use Prim.Native.Nat.{◌≤◌}
use Rattle.transaction.proofs.Accepted.{accepted-runnable}
use Rattle.engine.specs.Answers.{refusal_meant}
use Rattle.engine.specs.declared.Refusal.TheVariants.{Image, Book, Cycle, Log}
use Rattle.engine.proofs.Refused.{refused, none-there, some-there}
use Rattle.engine.proofs.Judged.{refused-malformed, told, without-order}
use Rattle.engine.proofs.Running.{image-told, image-refused, book-refused, log-refused, accepts, log-accepted}
use Rattle.engine.proofs.Running.{output-refused, room-refused, run-refused, run-accepted}
use Rattle.engine.proofs.run.Goals as goal

pub returns-then-out-lt-OUTPUT : goal.returns-then-out-lt-OUTPUT
returns-then-out-lt-OUTPUT c = output-refused (omega arith)

pub returns-then-room-lt-ROOM : goal.returns-then-room-lt-ROOM
returns-then-room-lt-ROOM c = room-refused (omega arith) (omega arith)

-- a malformed image
pub returns-in_err-head : goal.returns-in_err-head
unfolding refusal_meant
returns-in_err-head c =
    let long : 1355 ≤ length c.args.out.now = omega arith in
    let roomy : 65536 ≤ length c.args.room.now = omega arith in
    let is = refused c.judge.result c.from_residual.result c.ok_or.ensures.value c.in_err-head.was c.from_residual.ensures.1 in
    let malformed = image-refused c.args.image.now c.args.book.now c.args.log.now _ c.judge.ensures.result_value is.0 in
    rw is.1 (run-refused long roomy Image malformed)

-- a malformed book
pub returns-in_err-frame : goal.returns-in_err-frame
unfolding refusal_meant
returns-in_err-frame c =
    let long : 1355 ≤ length c.args.out.now = omega arith in
    let roomy : 65536 ≤ length c.args.room.now = omega arith in
    let i = image-told c.args.image.now c.judge.ensures.told c.in_ok-head.ensures.ok_part in
    let is =
    refused c.judge-2.result c.from_residual-in_err-frame.result c.ok_or-2.ensures.value c.in_err-frame.was
    c.from_residual-in_err-frame.ensures.1 in
    let malformed = refused-malformed c.args.book.now _ c.judge-2.ensures.result_value is.0 in
    rw is.1 (run-refused long roomy Book (book-refused c.args.image.now _ c.args.log.now _ i _ malformed))

-- no order
pub returns-then-is_none : goal.returns-then-is_none
unfolding refusal_meant
returns-then-is_none c =
    let long : 1355 ≤ length c.args.out.now = omega arith in
    let roomy : 65536 ≤ length c.args.room.now = omega arith in
    let i = image-told c.args.image.now c.judge.ensures.told c.in_ok-head.ensures.ok_part in
    let b = told c.args.book.now c.judge-2.ensures.told c.in_ok-frame.ensures.ok_part in
    let gone = none-there c.plan_of-plan.result.order c.is_none.ensures c.if-is_none.true in
    let cycle = without-order c.args.book.now _ _ c.plan_of-plan.result b c.plan_of-plan.ensures gone in
    run-refused long roomy Cycle (book-refused c.args.image.now _ c.args.log.now _ i _ cycle)

-- a malformed log
pub returns-in_err-operations : goal.returns-in_err-operations
unfolding refusal_meant
returns-in_err-operations c =
    let long : 1355 ≤ length c.args.out.now = omega arith in
    let roomy : 65536 ≤ length c.args.room.now = omega arith in
    let i = image-told c.args.image.now c.judge.ensures.told c.in_ok-head.ensures.ok_part in
    let b = told c.args.book.now c.judge-2.ensures.told c.in_ok-frame.ensures.ok_part in
    let order = some-there c.plan_of-plan.result.order c.is_none.ensures c.if-is_none.false in
    let is =
    refused c.judge-3.result c.from_residual-in_err-operations.result c.ok_or-3.ensures.value c.in_err-operations.was
    c.from_residual-in_err-operations.ensures.1 in
    let malformed =
    log-refused _ _ c.args.log.now _ i _ c.plan_of-plan.result b c.plan_of-plan.ensures order.1 _ c.judge-3.ensures is.0 in
    rw is.1 (run-refused long roomy Log malformed)

-- an accepted run
pub transact-requires-clause-runnable : goal.transact-requires-clause-runnable
transact-requires-clause-runnable c =
    let i = image-told c.args.image.now c.judge.ensures.told c.in_ok-head.ensures.ok_part in
    let b = told c.args.book.now c.judge-2.ensures.told c.in_ok-frame.ensures.ok_part in
    let order = some-there c.plan_of-plan.result.order c.is_none.ensures c.if-is_none.false in
    accepted-runnable (accepts _ _ c.args.log.now _ i _ c.plan_of-plan.result b c.plan_of-plan.ensures order.1 _)

pub returns : goal.returns
returns c =
    let long : 1355 ≤ length c.args.out.now = omega arith in
    let roomy : 65536 ≤ length c.args.room.now = omega arith in
    let i = image-told c.args.image.now c.judge.ensures.told c.in_ok-head.ensures.ok_part in
    let b = told c.args.book.now c.judge-2.ensures.told c.in_ok-frame.ensures.ok_part in
    let order = some-there c.plan_of-plan.result.order c.is_none.ensures c.if-is_none.false in
    let log = c.in_ok-operations.ensures.ok_part in
    let v =
    log-accepted _ _ c.args.log.now _ i _ c.plan_of-plan.result b c.plan_of-plan.ensures order.1 _ i.image _ _
    c.judge-3.ensures log in
    run-accepted long roomy v (c.transact.ensures.hands_back _ i.image) c.transact.ensures.cleared
