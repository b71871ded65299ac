-- `query::wanted_rows` meets its contract. The loop's invariant: the rows of which all terms hold are those, of the rows that are left, of
-- which the terms that are left hold.
use mathlib.Core.Path.{◌≡◌, sym, ap, ◌∙◌}
use Prim.Native.Nat.{◌+◌, ◌-◌}
use native.Mathlib.Omega.{arith}
use Rattle.meaning.specs.ByteLayouts.{term}
use Rattle.meaning.specs.Processing.Queries.{all_hold}
use Rattle.words.proofs.Laws.{readable-none, readable-bad, readable-more}
use Rattle.terms.specs.Terms.{term_or, terms_meant}
use Rattle.query.specs.Picks.{term_holds}
use Rattle.query.proofs.Keeping.{base-stands}
use Rattle.query.proofs.Few.{term_few}
use Rattle.query.proofs.Asking.{asking-start, asking-more, asking-done}
use Rattle.query.proofs.wanted_rows.Goals as goal

pub shown_rows-rows-requires : goal.shown_rows-rows-requires
shown_rows-rows-requires c = base-stands c.requires.laid c.args.q.source c.requires.base_value

pub loop-init : goal.loop-init
loop-init c =
    let whole : c.args.q.terms.count - 0 ≡ c.args.q.terms.count = omega arith in
    rw whole (asking-start _ _ c.shown_rows-rows.ensures.within)

pub term_rows-rows-requires : goal.term_rows-rows-requires
term_rows-rows-requires c =
    let is = sym c.term_at.ensures ∙ ap (term_or c.args.book.now) c.in-Some.is in
    let few = (term_few c.args.triggers).fit is in
    record {
      laid = c.requires.laid;
      stands = base-stands c.requires.laid c.args.q.source c.requires.base_value;
      within = c.loop.invariant.within;
      few_pairs = few;
    }

pub returns-in_default : goal.returns-in_default
unfolding all_hold terms_meant term_holds
returns-in_default c =
    asking-done c.loop.invariant _
    (readable-bad (term c.args.triggers) _ c.args.book.now c.loop.here
    (rw (← c.term_at.ensures, c.in_default.is)))
    c.shown_rows-rows.ensures

pub loop-preserved : goal.loop-preserved
loop-preserved c =
    let n = c.args.q.terms.count in
    let k = c.loop.counter in
    let rest : n - (k + 1) ≡ n - k - 1 = omega arith in
    rw rest
    (asking-more c.loop.invariant
    (readable-more (term c.args.triggers) (n - k) c.args.book.now c.loop.here _ _ (omega arith)
    (sym c.term_at.ensures ∙ ap (term_or c.args.book.now) c.in-Some.is))
    c.term_rows-rows.ensures)

pub returns : goal.returns
unfolding all_hold terms_meant term_holds
returns c =
    asking-done c.loop.invariant _
    (readable-none (term c.args.triggers) _ c.args.book.now c.loop.here (omega (arith, c.loop-test.false)))
    c.shown_rows-rows.ensures
