-- `transaction_log::judge` meets its contract: each of its tests decides as the law of that case says.
use mathlib.Core.Path.{sym, ◌∙◌}
use native.Mathlib.Omega.{arith}
use Rattle.words.specs.Words.{Bytes}
use Rattle.fields.proofs.Laws.{passed, failed, frame_refused}
use Rattle.meaning.specs.ByteLayouts.{log}
use Rattle.transaction_log.specs.Log.{operations_meant}
use Rattle.transaction_log.proofs.Laws.{log-no-count, log-too-many, log-malformed, log-not-filled, log-read}
use Rattle.transaction_log.proofs.judge.Goals as goal

pub returns-then-not-well_framed : goal.returns-then-not-well_framed
unfolding log
returns-then-not-well_framed c =
    let bytes : Bytes c.args.s.now = λ i. (c.type_inv.s i).fits in
    sym (frame_refused _ c.args.s.now bytes (failed c.well_framed.ensures c.if-not-well_framed.true))

pub returns-in_err-count : goal.returns-in_err-count
returns-in_err-count c =
    let bytes : Bytes c.args.s.now = λ i. (c.type_inv.s i).fits in
    let framed = passed c.well_framed.ensures c.if-not-well_framed.false in
    let none = sym (rw c.in_err-count.was at c.number16.ensures) in
    rw c.from_residual.ensures (sym (log-no-count c.args.s.now bytes framed none))

pub returns-then-count-gt-OPERATIONS : goal.returns-then-count-gt-OPERATIONS
returns-then-count-gt-OPERATIONS c =
    let bytes : Bytes c.args.s.now = λ i. (c.type_inv.s i).fits in
    let framed = passed c.well_framed.ensures c.if-not-well_framed.false in
    let count = sym (rw c.in_ok-count.was at c.number16.ensures) in
    sym (log-too-many c.args.s.now bytes framed c.in_ok-count.count c.in_ok-count.first count (omega arith))

pub returns-in_err-many_end : goal.returns-in_err-many_end
returns-in_err-many_end c =
    let bytes : Bytes c.args.s.now = λ i. (c.type_inv.s i).fits in
    let framed = passed c.well_framed.ensures c.if-not-well_framed.false in
    let count = sym (rw c.in_ok-count.was at c.number16.ensures) in
    let short = sym c.many_end.ensures ∙ c.in_err-many_end.was in
    rw c.from_residual-in_err-many_end.ensures
    (sym (log-malformed c.args.s.now bytes framed c.in_ok-count.count c.in_ok-count.first count (omega arith) short))

pub returns-then-branch-s : goal.returns-then-branch-s
returns-then-branch-s c =
    let bytes : Bytes c.args.s.now = λ i. (c.type_inv.s i).fits in
    let framed = passed c.well_framed.ensures c.if-not-well_framed.false in
    let count = sym (rw c.in_ok-count.was at c.number16.ensures) in
    let ends = sym c.many_end.ensures ∙ c.in_ok-many_end.was in
    sym (log-not-filled c.args.s.now bytes framed c.in_ok-count.count c.in_ok-count.first count (omega arith) _ ends (omega arith))

pub returns : goal.returns
unfolding operations_meant
returns c =
    let bytes : Bytes c.args.s.now = λ i. (c.type_inv.s i).fits in
    let framed = passed c.well_framed.ensures c.if-not-well_framed.false in
    let count = sym (rw c.in_ok-count.was at c.number16.ensures) in
    let ends = sym c.many_end.ensures ∙ c.in_ok-many_end.was in
    sym (log-read c.args.s.now bytes framed c.in_ok-count.count c.in_ok-count.first count (omega arith) _ ends (omega arith))
