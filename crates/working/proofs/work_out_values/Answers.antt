-- `working::work_out_values` meets its contract: the emptied table takes one row, which has the four values.
use lib.Count.{ones}
use mathlib.Core.Path.{ap, ◌∙◌}
use native.Mathlib.Omega.{arith}
use Rattle.meaning.specs.Covers.{Row}
use Rattle.words.specs.Words.{Bytes}
use Rattle.working.proofs.Values.{four-values}
use Rattle.working.proofs.Rows.{one-row, room-for-one}
use Rattle.working.proofs.work_out_values.Goals as goal

pub with_values-requires-clause-fact : goal.with_values-requires-clause-fact
unfolding ones
with_values-requires-clause-fact c = c.requires.fact

pub push-requires : goal.push-requires
push-requires c =
    (omega arith, (c.empty.ensures.stands, (room-for-one c.requires.laid c.empty.ensures, omega arith)))

pub returns : goal.returns
returns c =
    let bytes : Bytes c.args.s.now = λ i. (c.type_inv.s i).fits in
    one-row c.requires.laid c.empty.ensures c.with_values.result c.push.ensures
    (ap (λ (r : Row). r.values) c.with_values.ensures ∙ four-values c.args.s.now bytes c.args.at c.requires.fact _)
