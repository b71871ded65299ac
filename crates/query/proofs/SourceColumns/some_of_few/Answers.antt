-- `query::SourceColumns::some_of_few` meets its contract: the rows are asked one after another.
use borrow.Author.Rules.{rules}
use borrow.Author.Tests.{tests}
use native.Mathlib.Omega.{arith}
use mathlib.Core.Path.{refl, ◌∙◌}
use Rattle.std.proofs.lemmas.Iterator.{YieldsList-from_range}
use Rattle.std.proofs.lemmas.Iterator.Search.{any_from_yields_List}
use Rattle.query.specs.Columns.{has_at}
use Rattle.query.proofs.Columns.{any-below}
use Rattle.query.proofs.SourceColumns.some_of_few.Goals as goal

pub returns : goal.returns
returns c =
    any_from_yields_List (has_at c.args.self.now.s0 c.args.self.now.s1 c.args.self.now.s2 c.args.self.now.s3 c.args.w) _ _ _ c.any.ensures.ran
    (YieldsList-from_range 0 _ c.args.self.now.count refl (omega arith)) (λ x b q k. search (rules, tests))
    ∙ any-below _ _
