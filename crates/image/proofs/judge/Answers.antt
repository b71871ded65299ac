-- `image::judge` meets its contract: what cannot be read and each test that fails is where the specification refuses the slice, and behind
-- them all the image is taken.
use borrow.Author.Rules.{rules}
use mathlib.Core.Path.{sym, ◌∙◌}
use native.Mathlib.Omega.{arith}
use Rattle.words.specs.Words.{Bytes}
use Rattle.words.proofs.Laws.{reads-got, reads-bad}
use Rattle.image.specs.Images.{image_or}
use Rattle.image.proofs.Whole.{refused-frame, refused-short, refused-next, refused-uncounted, refused-count, refused-size, refused-rows}
use Rattle.image.proofs.Whole.{head_ends, taken}
use Rattle.image.proofs.judge.Goals as goal

pub returns-then-not-well_framed-clause-result_value : goal.returns-then-not-well_framed-clause-result_value
unfolding image_or
returns-then-not-well_framed-clause-result_value c =
    let bytes : Bytes c.args.s.now = λ i. (c.type_inv.s i).fits in
    sym (refused-frame c.args.s.now bytes (sym c.well_framed.ensures ∙ c.if-not-well_framed.true))

pub returns-in_err-next-clause-result_value : goal.returns-in_err-next-clause-result_value
unfolding image_or
returns-in_err-next-clause-result_value c =
    let bytes : Bytes c.args.s.now = λ i. (c.type_inv.s i).fits in
    let framed = sym c.well_framed.ensures ∙ c.if-not-well_framed.false in
    let short = reads-bad c.number32.ensures c.in_err-next.was in
    rw c.from_residual.ensures (sym (refused-short c.args.s.now bytes framed short))

pub returns-then-next-lt1-clause-result_value : goal.returns-then-next-lt1-clause-result_value
unfolding image_or
returns-then-next-lt1-clause-result_value c =
    let bytes : Bytes c.args.s.now = λ i. (c.type_inv.s i).fits in
    let framed = sym c.well_framed.ensures ∙ c.if-not-well_framed.false in
    let next = reads-got c.number32.ensures c.in_ok-next.was in
    sym (refused-next c.args.s.now bytes framed next c.if-next-lt1.true)

pub returns-in_err-count-clause-result_value : goal.returns-in_err-count-clause-result_value
unfolding image_or
returns-in_err-count-clause-result_value c =
    let bytes : Bytes c.args.s.now = λ i. (c.type_inv.s i).fits in
    let framed = sym c.well_framed.ensures ∙ c.if-not-well_framed.false in
    let next = reads-got c.number32.ensures c.in_ok-next.was in
    let short = reads-bad c.number16.ensures c.in_err-count.was in
    rw c.from_residual-in_err-count.ensures (sym (refused-uncounted c.args.s.now bytes framed next c.if-next-lt1.false short))

pub returns-then-count-gt-ROWS-clause-result_value : goal.returns-then-count-gt-ROWS-clause-result_value
unfolding image_or
returns-then-count-gt-ROWS-clause-result_value c =
    let bytes : Bytes c.args.s.now = λ i. (c.type_inv.s i).fits in
    let framed = sym c.well_framed.ensures ∙ c.if-not-well_framed.false in
    let next = reads-got c.number32.ensures c.in_ok-next.was in
    let count = reads-got c.number16.ensures c.in_ok-count.was in
    sym (refused-count c.args.s.now bytes framed next c.if-next-lt1.false count (omega (arith, c.if-count-gt-ROWS.true)))

pub overflow_add-first : goal.overflow_add-first
overflow_add-first c =
    let bytes : Bytes c.args.s.now = λ i. (c.type_inv.s i).fits in
    let framed = sym c.well_framed.ensures ∙ c.if-not-well_framed.false in
    let next = reads-got c.number32.ensures c.in_ok-next.was in
    let count = reads-got c.number16.ensures c.in_ok-count.was in
    let first = head_ends c.args.s.now bytes framed next c.if-next-lt1.false count in
    search rules

pub returns-then-s-first-clause-result_value : goal.returns-then-s-first-clause-result_value
unfolding image_or
returns-then-s-first-clause-result_value c =
    let bytes : Bytes c.args.s.now = λ i. (c.type_inv.s i).fits in
    let framed = sym c.well_framed.ensures ∙ c.if-not-well_framed.false in
    let next = reads-got c.number32.ensures c.in_ok-next.was in
    let count = reads-got c.number16.ensures c.in_ok-count.was in
    let refused = refused-size c.args.s.now bytes framed next c.if-next-lt1.false count (omega (arith, c.if-count-gt-ROWS.false)) in
    sym (refused (λ size. omega (arith, c.if-s-first.true)))

pub returns-then-not-rows_rise-clause-result_value : goal.returns-then-not-rows_rise-clause-result_value
unfolding image_or
returns-then-not-rows_rise-clause-result_value c =
    let bytes : Bytes c.args.s.now = λ i. (c.type_inv.s i).fits in
    let framed = sym c.well_framed.ensures ∙ c.if-not-well_framed.false in
    let next = reads-got c.number32.ensures c.in_ok-next.was in
    let count = reads-got c.number16.ensures c.in_ok-count.was in
    let fall = sym c.rows_rise.ensures ∙ c.if-not-rows_rise.true in
    sym (refused-rows c.args.s.now bytes framed next c.if-next-lt1.false count (omega (arith, c.if-count-gt-ROWS.false)) fall)

pub returns : goal.returns
returns c =
    let bytes : Bytes c.args.s.now = λ i. (c.type_inv.s i).fits in
    let framed = sym c.well_framed.ensures ∙ c.if-not-well_framed.false in
    let next = reads-got c.number32.ensures c.in_ok-next.was in
    let count = reads-got c.number16.ensures c.in_ok-count.was in
    let rise = sym c.rows_rise.ensures ∙ c.if-not-rows_rise.false in
    let image = taken c.args.s.now bytes framed next c.if-next-lt1.false count (omega (arith, c.if-count-gt-ROWS.false)) in
    let given = image (omega (arith, c.if-s-first.false)) rise in
    record { result_value = given.0; told = given.1 }
