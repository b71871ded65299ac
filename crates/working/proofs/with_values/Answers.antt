-- `working::with_values` meets its contract. The loop's invariant: the row, filled with the values still to come from its column on, is
-- the row wanted.
use mathlib.Core.Path.{sym, ◌∙◌}
use native.Mathlib.Omega.{arith}
use Rattle.words.specs.Words.{Bytes}
use Rattle.working.proofs.Values.{filling-start, filling-done, filling-fits, filling-set, filling-unset}
use Rattle.working.proofs.with_values.Goals.{then-has_bit, else-has_bit}
use Rattle.working.proofs.with_values.Goals as goal

pub loop-c-init : goal.loop-c-init
loop-c-init c =
    let bytes : Bytes c.args.s.now = λ i. (c.type_inv.s i).fits in
    filling-start c.args.s.now bytes c.args.mask c.args.at c.args.e c.requires.fact

pub word32-requires : goal.word32-requires
word32-requires c =
    let bytes : Bytes c.args.s.now = λ i. (c.type_inv.s i).fits in
    filling-fits c.args.s.now bytes c.args.mask c.loop-c.invariant (sym c.has_bit.ensures ∙ c.if-has_bit.true)

pub overflow_add-here : goal.overflow_add-here
overflow_add-here c =
    let bytes : Bytes c.args.s.now = λ i. (c.type_inv.s i).fits in
    omega (arith, filling-fits c.args.s.now bytes c.args.mask c.loop-c.invariant (sym c.has_bit.ensures ∙ c.if-has_bit.true))

pub loop-c-preserved : goal.loop-c-preserved
loop-c-preserved c =
    let bytes : Bytes c.args.s.now = λ i. (c.type_inv.s i).fits in
    let test = sym c.has_bit.ensures in
    elim c.if-has_bit.branch [
      | then-has_bit w ↦
          rw (w.row-is, w.here-is)
          (filling-set c.args.s.now bytes c.args.mask c.loop-c.invariant (omega arith) (test ∙ w.if-has_bit.true) (rw (← w.word32.ensures) w.with_cell-row.ensures))
      | else-has_bit w ↦
          rw (w.row-is, w.here-is)
          (filling-unset c.args.s.now bytes c.args.mask c.loop-c.invariant (omega arith) (test ∙ w.if-has_bit.false))
    ]

pub returns : goal.returns
returns c =
    let bytes : Bytes c.args.s.now = λ i. (c.type_inv.s i).fits in
    filling-done c.args.s.now bytes c.args.mask c.loop-c.invariant (omega arith)
