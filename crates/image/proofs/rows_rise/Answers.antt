-- `image::rows_rise` meets its contract. The loop's invariant: what is asked of all the rows is what is asked of those that are left from
-- here on, above the last handle.
use borrow.Author.Tests.{leb-false}
use lib.ListN.{length}
use mathlib.Core.Path.{◌≡◌, ◌∙◌, sym, ap}
use native.Mathlib.Omega.{arith}
use Prim.Native.Nat.{ℕ, ◌+◌, ◌-◌}
use Rattle.meaning.specs.Reading.{many}
use Rattle.meaning.specs.ByteLayouts as ByteLayouts
use Rattle.words.specs.Words.{Bytes}
use Rattle.image.specs.Images.{row_meant, rise_in}
use Rattle.image.proofs.Laws.{row-proper, row-improper, row-short, rise-none, rise-bad, rise-low, rise-high, rise-more}
use Rattle.image.proofs.rows_rise.Goals as goal

pub returns-then-not-has : goal.returns-then-not-has
returns-then-not-has c =
    let bytes : Bytes c.args.s.now = λ i. (c.type_inv.s i).fits in
    let left = c.args.n - c.loop.counter in
    let ends = leb-false (c.loop.here + 21) (length c.args.s.now) (sym c.has.ensures ∙ c.if-not-has.true) in
    let is = row-short c.args.s.now bytes c.loop.here ends in
    sym (c.loop.invariant ∙ rise-bad left c.args.s.now c.loop.here c.loop.last c.args.high (omega arith) is)

pub returns-then-r-gt3 : goal.returns-then-r-gt3
returns-then-r-gt3 c =
    let left = c.args.n - c.loop.counter in
    let is = c.row_at-r.ensures ∙ row-improper c.row_at-r.result (c.loop.here + 21) c.if-r-gt3.true in
    sym (c.loop.invariant ∙ rise-bad left c.args.s.now c.loop.here c.loop.last c.args.high (omega arith) is)

pub returns-then-r-last : goal.returns-then-r-last
unfolding row_meant
returns-then-r-last c =
    let left = c.args.n - c.loop.counter in
    let r = row_meant c.row_at-r.result in
    let is = c.row_at-r.ensures ∙ row-proper c.row_at-r.result (c.loop.here + 21) c.if-r-gt3.false in
    let low = rise-low left c.args.s.now c.loop.here c.loop.last c.args.high r (c.loop.here + 21) (omega arith) is in
    sym (c.loop.invariant ∙ low (omega (arith, c.if-r-last.true)))

pub returns-then-high-r : goal.returns-then-high-r
unfolding row_meant
returns-then-high-r c =
    let left = c.args.n - c.loop.counter in
    let r = row_meant c.row_at-r.result in
    let is = c.row_at-r.ensures ∙ row-proper c.row_at-r.result (c.loop.here + 21) c.if-r-gt3.false in
    let high = rise-high left c.args.s.now c.loop.here c.loop.last c.args.high r (c.loop.here + 21) (omega arith) is in
    sym (c.loop.invariant ∙ high (omega (arith, c.if-high-r.true)))

pub loop-preserved : goal.loop-preserved
unfolding row_meant
loop-preserved c =
    let left = c.args.n - c.loop.counter in
    let r = row_meant c.row_at-r.result in
    let next = c.loop.here + 21 in
    let is = c.row_at-r.ensures ∙ row-proper c.row_at-r.result next c.if-r-gt3.false in
    let more = rise-more left c.args.s.now c.loop.here c.loop.last c.args.high r next (omega arith) is in
    let less : left - 1 ≡ c.args.n - (c.loop.counter + 1) = omega arith in
    c.loop.invariant ∙ more (omega (arith, c.if-r-last.false)) (omega (arith, c.if-high-r.false))
    ∙ ap (λ (k : ℕ). rise_in r.handle c.args.high (many k ByteLayouts.row c.args.s.now next)) less

pub returns : goal.returns
returns c =
    let left = c.args.n - c.loop.counter in
    sym (c.loop.invariant ∙ rise-none left c.args.s.now c.loop.here c.loop.last c.args.high (omega arith))
