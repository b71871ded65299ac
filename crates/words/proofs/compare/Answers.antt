-- `words::compare` meets its contract: the library compares words as the signed numbers that they stand for.
use native.Mathlib.Omega.{arith}
use borrow.Author.Tests.{ne_eqb}
use Rattle.meaning.specs.ByteLayouts.{comparison}
use Rattle.meaning.specs.Values.{compare as values_compare}
use Rattle.words.proofs.Signs.{cast_back, cast_operand, signed-agree}
use Rattle.words.proofs.compare.Goals as goal

pub returns-in-0 : goal.returns-in-0
unfolding values_compare comparison
returns-in-0 c =
    rw (c.in-0.is, cast_back c.cast_signed-x.ensures c.ranges.a.fits, cast_back c.cast_signed-y.ensures c.ranges.b.fits, signed-agree c.args.a c.args.b c.ranges.a.fits c.ranges.b.fits)

pub returns-in-1 : goal.returns-in-1
unfolding values_compare comparison
returns-in-1 c =
    rw (c.in-1.is, cast_back c.cast_signed-x.ensures c.ranges.a.fits, cast_back c.cast_signed-y.ensures c.ranges.b.fits, signed-agree c.args.a c.args.b c.ranges.a.fits c.ranges.b.fits)

pub returns-in-2 : goal.returns-in-2
unfolding values_compare comparison
returns-in-2 c =
    rw (c.in-2.is, cast_operand c.cast_signed-x.ensures c.ranges.a.fits, cast_operand c.cast_signed-y.ensures c.ranges.b.fits)

pub returns-in-3 : goal.returns-in-3
unfolding values_compare comparison
returns-in-3 c =
    rw (c.in-3.is, cast_operand c.cast_signed-x.ensures c.ranges.a.fits, cast_operand c.cast_signed-y.ensures c.ranges.b.fits)

pub returns-in-4 : goal.returns-in-4
unfolding values_compare comparison
returns-in-4 c =
    rw (c.in-4.is, cast_operand c.cast_signed-x.ensures c.ranges.a.fits, cast_operand c.cast_signed-y.ensures c.ranges.b.fits)

pub returns-in_default : goal.returns-in_default
unfolding values_compare comparison
returns-in_default c =
    rw (ne_eqb c.args.op 0 (omega arith), ne_eqb c.args.op 1 (omega arith), ne_eqb c.args.op 2 (omega arith), ne_eqb c.args.op 3 (omega arith), ne_eqb c.args.op 4 (omega arith))
    (rw (cast_operand c.cast_signed-x.ensures c.ranges.a.fits, cast_operand c.cast_signed-y.ensures c.ranges.b.fits))
