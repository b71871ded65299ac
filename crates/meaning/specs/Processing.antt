-- Processing: the log, then considerations of triggered rules until none is triggered, the limit is reached, or the run ends.
use Rattle.std.specs.Prelude.{Bool, true, false, ◌&&◌, List, [], ◌∷◌, ◌++◌, map, ℕ, zero, suc, length, get_or, drop, set, replicate, if◌then◌else◌}
use Rattle.std.proofs.Math.Option.{Option, none, some}
use Rattle.std.proofs.Math.ListN.{get_elem?}
use Rattle.meaning.specs.Base.{maybe, first_with, some_in, any}
use Rattle.meaning.specs.Covers.{Row, Image, Rule, Query, Action, LogOperation, Outcome, commit, step_limit}
use Rattle.meaning.specs.RowOperations.{RowOperation, NetEffect, net_effect, make_all}
pub mod TotalOrder
pub mod TransitionTables
pub mod Queries
pub mod Actions
use TransitionTables.{Transition, wakes, transition}
use Queries.{chosen}
use Actions.{Result, went, onward, and_then, operate, perform}

-- ---- The state of a run, and its trace

-- All row operations so far, in order, and for each rule a mark: how many of them had been made when it was last considered.
pub record State : Type 0 where
  pub image : Image
  pub done : List RowOperation
  pub marks : List ℕ

-- What happens in a run: a row operation is made; a rule is considered, and given a net effect.
pub data Event : Type 0 where
  made : RowOperation → Event
  considered : ℕ → NetEffect → Event

-- the outcome, the number of considerations, the image at the end, and all that happened, in order
pub record Ending : Type 0 where
  pub outcome : Outcome
  pub count : ℕ
  pub image : Image
  pub trace : List Event

unfoldable pub ended : Outcome → ℕ → Image → List Event → Ending
ended o n m es = record { outcome = o; count = n; image = m; trace = es }

-- an ending, and what happened before
unfoldable pub after_events : List Event → Ending → Ending
after_events es e = ended e.outcome e.count e.image (es ++ e.trace)

-- ---- What waits

-- the operations since a rule was last considered, or since the start
unfoldable pub since : State → ℕ → List RowOperation
since s k = drop (get_or s.marks k 0) s.done

-- what waits for a rule
unfoldable pub waits : State → ℕ → NetEffect
waits s k = net_effect (since s k)

-- ---- The log

-- the operations run in order; the first that fails changes nothing and ends the run
unfoldable pub run_log : List LogOperation → Image → Result
run_log [] m = went []
run_log (q ∷ qs) m = and_then m (operate q m) (run_log qs)

-- ---- A consideration

-- the condition holds if it is absent or its query yields a row
unfoldable pub condition_holds : Transition → List Row → Option Query → Bool
condition_holds t rows none = true
condition_holds t rows (some q) = some_in (chosen t rows q)

-- the actions run in order
unfoldable pub run_actions : Transition → List Action → Image → Result
run_actions t [] m = went []
run_actions t (a ∷ more) m = and_then m (perform t a m) (run_actions t more)

unfoldable pub consider_with : Transition → Rule → Image → Result
consider_with t r m = if condition_holds t m.rows r.condition then run_actions t r.actions m else went []

-- what waited for the rule becomes its transition tables; if its condition holds, its actions run
unfoldable pub consider_rule : Rule → NetEffect → Image → Result
consider_rule r given m = consider_with (transition r m.rows given) r m

module _ (rules : List Rule) where
  -- an active rule is triggered if what waits for it wakes it
  unfoldable pub triggered : State → ℕ → Bool
  triggered s k = maybe (get_elem? rules k) false (λ r. r.active && any (λ p. wakes r p.1) (waits s k))

  unfoldable pub consider : State → ℕ → Result
  consider s k = maybe (get_elem? rules k) (went []) (λ r. consider_rule r (waits s k) s.image)

  -- What waited for the rule is emptied before its actions: their operations join what waits for every active rule, this one included.
  unfoldable pub moved : State → ℕ → List RowOperation → State
  moved s k new = record { image = make_all new s.image; done = s.done ++ new; marks = set s.marks k (length s.done) }

  unfoldable pub consideration : State → ℕ → List RowOperation → List Event
  consideration s k new = considered k (waits s k) ∷ map made new

  -- ---- The steps

  module _ (order : List ℕ) where
    -- the first triggered rule in total order
    unfoldable pub first_triggered : State → Option ℕ
    first_triggered s = first_with (triggered s) order

    -- None triggered: commit. Otherwise, if the limit has been reached, outcome 2; otherwise the rule is considered, and the count rises
    -- by one. `left` considerations are left, and `count` were made.
    unfoldable pub steps : ℕ → ℕ → State → Ending
    steps zero count s = maybe (first_triggered s) (ended commit count s.image []) (λ k. ended step_limit count s.image [])
    steps (suc left) count s =
        maybe (first_triggered s) (ended commit count s.image []) (λ k.
        onward (consider s k)
        (λ new. after_events (consideration s k new) (steps left (suc count) (moved s k new)))
        (λ o new. ended o (suc count) (make_all new s.image) (consideration s k new)))

    -- what waits for each rule starts empty; the log's operations join it
    unfoldable pub after_log : Image → List RowOperation → State
    after_log start new = record { image = make_all new start; done = new; marks = replicate (length rules) 0 }

    unfoldable pub process : ℕ → List LogOperation → Image → Ending
    process limit log start =
        onward (run_log log start)
        (λ new. after_events (map made new) (steps limit 0 (after_log start new)))
        (λ o new. ended o 0 (make_all new start) (map made new))
