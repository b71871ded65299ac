-- `working::work_out_row` meets its contract. The loop's invariant: worked row i, filled from its column on with what the expressions
-- still to come give over chosen row i, is the row wanted, and nothing else has changed.
use Rattle.std.specs.Prelude.{Some, None, Err}
use mathlib.Core.Path.{◌≡◌, sym, ap, ◌∙◌}
use native.Mathlib.Omega.{arith}
use Rattle.terms.specs.Terms.{expression_or}
use Rattle.rows.specs.declared.Reason.TheVariants.{SumOutOfRange}
use Rattle.working.proofs.OneRow.{storing-start, storing-done, storing-bad, storing-unset, storing-out, storing-set}
use Rattle.working.proofs.OneRow.{changed-stands, changed-below, changed-within}
use Rattle.working.proofs.work_out_row.Goals.{then-has_bit+in-Some+in_ok-v, else-has_bit}
use Rattle.working.proofs.work_out_row.Goals as goal

pub loop-c-init : goal.loop-c-init
loop-c-init c =
    storing-start c.args.book.now c.args.mask c.args.at c.requires.as_chosen

pub work_out-requires : goal.work_out-requires
work_out-requires c =
    record {
      stands = changed-stands c.loop-c.invariant.changed;
      i_bound = changed-below c.loop-c.invariant.changed;
    }

pub put_value-requires : goal.put_value-requires
put_value-requires c =
    (omega arith, (c.loop-c.invariant.changed.works.stands, (changed-within c.loop-c.invariant.changed, omega arith)))

pub returns-in_err-v : goal.returns-in_err-v
returns-in_err-v c =
    let none : c.work_out.result ≡ None = grind arith in
    let stopped : c.from_residual.result ≡ Err SumOutOfRange = grind arith in
    rw stopped
    (storing-out c.args.book.now c.args.mask c.loop-c.invariant (omega arith)
    (sym c.has_bit.ensures ∙ c.if-has_bit.true)
    (sym c.expression_at.ensures ∙ ap expression_or c.in-Some.is)
    (rw none at c.work_out.ensures))

pub returns-in_default : goal.returns-in_default
returns-in_default c =
    storing-bad c.args.book.now c.args.mask c.loop-c.invariant
    (sym c.expression_at.ensures ∙ ap expression_or c.in_default.is)

pub loop-c-preserved : goal.loop-c-preserved
loop-c-preserved c =
    let test = sym c.has_bit.ensures in
    elim c.if-has_bit.branch [
      | then-has_bit+in-Some+in_ok-v w ↦
          let some : w.work_out.result ≡ Some w.in_ok-v.v = grind arith in
          rw (w.room-is, w.here-is)
          (storing-set c.args.book.now c.args.mask c.loop-c.invariant (omega arith) (test ∙ w.if-has_bit.true)
          (sym w.expression_at.ensures ∙ ap expression_or w.in-Some.is) _
          (rw some at w.work_out.ensures) w.put_value.ensures)
      | else-has_bit w ↦
          rw (w.room-is, w.here-is)
          (storing-unset c.args.book.now c.args.mask c.loop-c.invariant (omega arith) (test ∙ w.if-has_bit.false))
    ]

pub returns : goal.returns
returns c =
    storing-done c.args.book.now c.args.mask c.loop-c.invariant c.requires.mask_bound (omega arith)
