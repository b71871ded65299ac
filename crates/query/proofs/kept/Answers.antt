-- `query::kept` meets its contract: the places are narrowed in place to those of the rows that pass the test.
use borrow.Author.Rules.{rules}
use mathlib.Core.Path.{◌≡◌, sym, ◌∙◌}
use lib.ListN.{length}
use Rattle.query.proofs.Narrowing.{narrowing-start, narrowing-stands, narrowing-yes, narrowing-no, narrowing-done}
use Rattle.query.proofs.kept.Goals.{then-passes, else-passes}
use Rattle.query.proofs.kept.Goals as goal

pub loop-j-init : goal.loop-j-init
loop-j-init g c =
    let long : length c.args.rows.places ≡ 64 = search rules in
    narrowing-start _ _ c.requires.within long

pub passes-requires-clause-i_bound : goal.passes-requires-clause-i_bound
passes-requires-clause-i_bound g c =
    narrowing-stands _ _ _ c.loop-j.invariant c.loop-j-test.true c.wide.ensures.0

pub loop-j-preserved : goal.loop-j-preserved
loop-j-preserved g c =
    elim c.if-passes.branch [
      | then-passes w ↦ rw (w.places-is, w.count-is) (narrowing-yes _ _ c.loop-j.invariant c.loop-j-test.true (rw (← c.wide.ensures.0) (sym c.passes.ensures ∙ w.if-passes.true)))
      | else-passes w ↦ rw (w.places-is, w.count-is) (narrowing-no _ _ c.loop-j.invariant c.loop-j-test.true (rw (← c.wide.ensures.0) (sym c.passes.ensures ∙ w.if-passes.false)))
    ]

pub returns : goal.returns
returns g c = narrowing-done _ _ c.loop-j.invariant c.loop-j-test.false
