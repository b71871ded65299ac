-- `words::plus` meets its contract: the library's sum is that of the values, and the range the same.
use borrow.Author.Rules.{rules}
use mathlib.Core.Path.{◌≡◌, sym}
use lib.IntN.{◌+ℤ◌}
use mir.Syntax.{w32}
use mir.Val.{SFits}
use Rattle.meaning.specs.Values.{signed, plus as values_plus}
use Rattle.words.proofs.Signs.{cast_operand, word-stands, in-range, out-of-range}
use Rattle.words.proofs.plus.Goals as goal

pub returns-in_err-sum : goal.returns-in_err-sum
unfolding values_plus
returns-in_err-sum c =
    rw c.from_residual.ensures (sym (out-of-range (λ fits. search (rules, cast_operand, c.in_err-sum.was))))

pub returns : goal.returns
unfolding values_plus
returns c =
    let x = cast_operand c.cast_signed.ensures c.ranges.a.fits in
    let y = cast_operand c.cast_signed-2.ensures c.ranges.b.fits in
    let sum : c.in_ok-sum.sum ≡ signed c.args.a +ℤ signed c.args.b = rw (← x, ← y) (search rules) in
    let fits : SFits w32 (signed c.args.a +ℤ signed c.args.b) = rw (← x, ← y) (search rules) in
    rw (word-stands c.cast_unsigned.ensures sum fits) (sym (in-range fits))
