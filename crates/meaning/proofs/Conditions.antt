-- Whether a rule's actions run: by cases of its condition, and of the rows that its query yields.
use mathlib.Core.Path.{◌≡◌}
use mathlib.Core.Bool.{true}
use mathlib.Core.List.{List}
use mathlib.Core.Option.{Option, none, some}
use Rattle.meaning.specs.Base.{some_in}
use Rattle.meaning.specs.Covers.{Row, Query}
use Rattle.meaning.specs.Processing.{condition_holds, consider_with, consider_rule}
use Rattle.meaning.specs.Processing.TransitionTables.{Transition, transition}
use Rattle.meaning.specs.Processing.Queries.{chosen}
use Rattle.meaning.specs.Theorems.{Conditions}

module _ (t : Transition) (rows : List Row) (c : Option Query) where
  no-condition : c ≡ none → condition_holds t rows c ≡ true
  unfolding condition_holds
  no-condition e = rw e

  some-condition : (q : Query) → c ≡ some q → condition_holds t rows c ≡ some_in (chosen t rows q)
  unfolding condition_holds
  some-condition q e = rw e

pub conditions : Conditions
unfolding consider_rule consider_with
conditions =
    record {
      absent = λ r given m e. rw (no-condition (transition r m.rows given) m.rows r.condition e);
      yields = λ r given m q e x xs c. rw (some-condition (transition r m.rows given) m.rows r.condition q e, c);
      empty = λ r given m q e c. rw (some-condition (transition r m.rows given) m.rows r.condition q e, c);
    }
