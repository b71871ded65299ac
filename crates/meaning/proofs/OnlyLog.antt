-- No action of a rule ends a run with reason 1, so a run that ends with it ends in its log.
use mathlib.Core.Path.{◌≡◌, refl}
use mathlib.Core.Logic.{◌≢◌}
use mathlib.Core.List.{List, [], ◌∷◌}
use Prim.Native.Nat.{ℕ, ◌+◌}
use native.Mathlib.Omega.{arith}
use lib.IntN.{ℤ}
use lib.Dec.{ltb}
use lib.ListN.{length, get_elem?}
use Rattle.meaning.specs.Base.{each_or}
use Rattle.meaning.specs.Covers.{most_rows, last_handle, Image, Rule, Action, LogOperation, Outcome, rolled_back, failed, no_such_row}
use Rattle.meaning.specs.Covers.{rollback, insert_row, insert_from_query, delete_rows, update_rows}
use Rattle.meaning.specs.RowOperations.{RowOperation, make_all}
use Rattle.meaning.specs.Processing.{State, Ending, ended, after_events, waits, condition_holds, run_actions, consider_with}
use Rattle.meaning.specs.Processing.{consider_rule, consider}
use Rattle.meaning.specs.Processing.TransitionTables.{Transition, transition}
use Rattle.meaning.specs.Processing.Queries.{chosen, work_out_all}
use Rattle.meaning.specs.Processing.Actions.{Result, went, ends, following, and_then, fails, insert_all, delete_all, update_all}
use Rattle.meaning.specs.Processing.Actions.{rows_of, perform}
use Rattle.meaning.specs.EntryPoints.{failure_number, reason_number}
use Rattle.meaning.specs.Runs.{Accepted, ending_of}
use Rattle.meaning.proofs.Lists.{if-so, maybe-so}
use Rattle.meaning.proofs.Traces.{Steps, commits, meets_limit, ends_run, goes_on, Runs, log_ends, log_done}
use Rattle.meaning.proofs.RunsFit.{run-steps}

-- ---- Actions and considerations

-- a result that does not end the run with reason 1
data NotOne : Result → Type 0 where
  goes : {os : List RowOperation} → NotOne (went os)
  stops : {o : Outcome} {os : List RowOperation} → reason_number o ≢ 1 → NotOne (ends o os)

ends-not : {o : Outcome} {os : List RowOperation} → NotOne (ends o os) → reason_number o ≢ 1
ends-not (stops n) = n

following-not : {r : Result} (os : List RowOperation) → NotOne r → NotOne (following os r)
unfolding following
following-not os goes = goes
following-not os (stops n) = stops n

and_then-not : (m : Image) {r : Result} {f : Image → Result} → NotOne r → ((n : Image) → NotOne (f n)) → NotOne (and_then m r f)
unfolding and_then
and_then-not m (goes {os = os}) k = following-not os (k (make_all os m))
and_then-not m (stops n) k = stops n

insert_all-not : (t : ℕ) (vss : List (List ℤ)) (m : Image) → NotOne (insert_all t vss m)
unfolding insert_all fails reason_number failure_number
insert_all-not t vss m =
    if-so NotOne (ltb most_rows (length m.rows + length vss)) (λ b. stops (λ e. omega arith)) (λ b.
    if-so NotOne (ltb last_handle (m.next + length vss)) (λ c. stops (λ e. omega arith)) (λ c. goes))

perform-not : (t : Transition) (a : Action) (m : Image) → NotOne (perform t a m)
unfolding perform delete_all update_all fails reason_number failure_number
perform-not t rollback m = stops {o = rolled_back} (λ e. omega arith)
perform-not t (insert_row n vs) m = insert_all-not n (vs ∷ []) m
perform-not t (insert_from_query n q es) m =
    maybe-so NotOne (each_or (work_out_all es) (chosen t m.rows q)) (λ o. stops (λ e. omega arith)) (λ vss o. insert_all-not n vss m)
perform-not t (delete_rows n ts) m = goes
perform-not t (update_rows n mask es ts) m =
    maybe-so NotOne (each_or (work_out_all es) (chosen t m.rows (rows_of n ts))) (λ o. stops (λ e. omega arith)) (λ vss o. goes)

run_actions-not : (t : Transition) (acts : List Action) (m : Image) → NotOne (run_actions t acts m)
unfolding run_actions
run_actions-not t [] m = goes
run_actions-not t (a ∷ acts) m = and_then-not m (perform-not t a m) (run_actions-not t acts)

module _ (rules : List Rule) (order : List ℕ) where
  consider-not : (s : State) (k : ℕ) → NotOne (consider rules s k)
  unfolding consider consider_rule consider_with
  consider-not s k =
      maybe-so NotOne (get_elem? rules k) (λ o. goes) (λ r o.
      let t = transition r s.image.rows (waits s k) in
      if-so NotOne (condition_holds t s.image.rows r.condition) (λ c. run_actions-not t r.actions s.image) (λ c. goes))

  steps-not : {left count : ℕ} {s : State} {e : Ending} → Steps rules order left count s e → reason_number e.outcome ≢ 1
  unfolding ended after_events reason_number
  steps-not (commits t) q = omega arith
  steps-not (meets_limit t) q = omega arith
  steps-not (ends_run {k = k} {s = s} t c) q = ends-not (rw c at (consider-not s k)) q
  steps-not (goes_on t c more) q = steps-not more q

  runs-one : {limit : ℕ} {log : List LogOperation} {start : Image} {e : Ending} → Runs rules order limit log start e
      → reason_number e.outcome ≡ 1 → e.count ≡ 0
  unfolding ended after_events
  runs-one (log_ends l) q = refl
  runs-one (log_done l more) q = absurd (steps-not more q)

pub only-log : {image book log : List ℕ} (a : Accepted image book log) → (ending_of a).outcome ≡ failed no_such_row → (ending_of a).count ≡ 0
unfolding reason_number failure_number
only-log a q = runs-one a.rule_book.rules a.order (run-steps a) (rw q)
