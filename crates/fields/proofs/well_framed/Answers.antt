-- `fields::well_framed` meets its contract: its three tests are those of the definition, the length counted from the other side.
use borrow.Author.Tests.{leb-true, eq-eqb, ne_eqb}
use lib.ListN.{length}
use mathlib.Core.Path.{◌≡◌}
use native.Mathlib.Omega.{arith}
use Prim.Native.Nat.{◌+◌}
use Rattle.words.specs.Words.{word32_at}
use Rattle.fields.specs.Fields.{well_framed}
use Rattle.fields.proofs.Laws.{passed, failed}
use Rattle.fields.proofs.well_framed.Goals as goal

pub returns-then-not-has : goal.returns-then-not-has
unfolding well_framed
returns-then-not-has c = rw (failed c.has.ensures c.if-not-has.true)

pub returns-then-word32-rest : goal.returns-then-word32-rest
unfolding well_framed
returns-then-word32-rest c =
    let four = passed c.has.ensures c.if-not-has.false in
    let long = leb-true 4 (length c.args.s.now) four in
    let other : 4 + word32_at c.args.s.now 0 ≡ length c.args.s.now → ⊥ = λ e. c.if-word32-rest.true (omega (arith, c.word32.ensures)) in
    rw (four, ne_eqb (4 + word32_at c.args.s.now 0) (length c.args.s.now) other)

pub returns : goal.returns
unfolding well_framed
returns c =
    let four = passed c.has.ensures c.if-not-has.false in
    let long = leb-true 4 (length c.args.s.now) four in
    let same : 4 + word32_at c.args.s.now 0 ≡ length c.args.s.now = omega (arith, c.word32.ensures) in
    rw (four, eq-eqb (4 + word32_at c.args.s.now 0) (length c.args.s.now) same, c.byte.ensures.is)
