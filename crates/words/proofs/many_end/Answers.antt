-- `words::many_end` meets its contract. The loop's invariant: all end where those that are left do, read from here on.
use mathlib.Core.Path.{◌≡◌, sym, ap, ◌∙◌}
use native.Mathlib.Omega.{arith}
use Prim.Native.Nat.{ℕ, ◌+◌, ◌-◌}
use Rattle.meaning.specs.Reading.{many}
use Rattle.words.specs.Words.{end_of}
use Rattle.words.proofs.Laws.{ends-none, ends-bad, ends_more}
use Rattle.words.proofs.many_end.Goals as goal

pub returns-in_err-here : goal.returns-in_err-here
returns-in_err-here g c =
    let p = g.L.Layout.layout c.args.layout.now in
    let left = c.args.n - c.loop.counter in
    let bad = ends-bad p left c.args.s.now c.loop.here (omega arith) (sym c.end.ensures ∙ c.in_err-here.was) in
    c.from_residual.ensures ∙ sym (c.loop.invariant ∙ bad)

pub loop-preserved : goal.loop-preserved
loop-preserved g c =
    let p = g.L.Layout.layout c.args.layout.now in
    let left = c.args.n - c.loop.counter in
    let next = c.in_ok-here.here in
    let less : left - 1 ≡ c.args.n - (c.loop.counter + 1) = omega arith in
    let more = ends_more p left c.args.s.now c.loop.here next (omega arith) (sym c.end.ensures ∙ c.in_ok-here.was) in
    c.loop.invariant ∙ more ∙ ap (λ (k : ℕ). end_of (many k p c.args.s.now next)) less

pub returns : goal.returns
returns g c =
    let p = g.L.Layout.layout c.args.layout.now in
    let left = c.args.n - c.loop.counter in
    sym (c.loop.invariant ∙ ends-none p left c.args.s.now c.loop.here (omega arith))
