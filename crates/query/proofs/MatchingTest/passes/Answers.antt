-- The test of `query::Matching` is its definition: what is found is as it was asked, or its opposite.
use Rattle.query.proofs.Columns.{kept-opposite, kept_same}
use Rattle.query.proofs.MatchingTest.passes.Goals as goal

pub returns-then-self : goal.returns-then-self
returns-then-self c = kept-opposite {found = c.some_has-found.result} (rw (← c.wanted_by.ensures) c.some_has-found.ensures) c.if-self.true

pub returns : goal.returns
returns c = kept_same (rw (← c.wanted_by.ensures) c.some_has-found.ensures) c.if-self.false
