-- The mask of every update in a run is 1..15: the parsers let no other pass, and an operation's mask is that of its action or of its
-- operation of the log.
use Rattle.std.specs.Prelude.{if◌then◌else◌}
use mathlib.Core.Path.{◌≡◌, refl}
use mathlib.Core.Bool.{Bool, true, false}
use mathlib.Core.List.{List, [], ◌∷◌, ◌++◌, map}
use mathlib.Core.Option.{Option, none, some}
use Prim.Native.Nat.{ℕ, ◌+◌}
use lib.IntN.{ℤ}
use lib.Dec.{ltb}
use lib.ListN.{length, get_elem?}
use Rattle.meaning.specs.Base.{maybe, each_or, Each, no_element, an_element}
use Rattle.meaning.specs.Covers.{most_rows, last_handle, Row, Image, Rule, Action, LogOperation, Outcome}
use Rattle.meaning.specs.Covers.{rollback, insert_row, insert_from_query, delete_rows, update_rows, insert, delete, update}
use Rattle.meaning.specs.RowOperations.{RowOperation, inserts, deletes, updates, make_all, row_at}
use Rattle.meaning.specs.Processing.{State, made, Ending, ended, after_events, run_log, condition_holds, run_actions, consider_with}
use Rattle.meaning.specs.Processing.{consider_rule, consider, consideration, waits}
use Rattle.meaning.specs.Processing.TransitionTables.{Transition, transition}
use Rattle.meaning.specs.Processing.Queries.{chosen, work_out_all}
use Rattle.meaning.specs.Processing.Actions.{Result, went, ends, following, and_then, fails, new_rows, insert_all, delete_all, updates_of}
use Rattle.meaning.specs.Processing.Actions.{update_all, operate, rows_of, perform}
use Rattle.meaning.specs.Trace.{operations_in}
use Rattle.meaning.specs.Runs.{Accepted, ending_of}
use Rattle.meaning.proofs.Lists.{each-element}
use Rattle.meaning.proofs.Traces.{operations-append, operations-made, Steps, commits, meets_limit, ends_run, goes_on, Runs, log_ends}
use Rattle.meaning.proofs.Traces.{log_done}
use Rattle.meaning.proofs.ActionsFit.{IsMask, GoodOperation, good_insert, good_delete, good_update, GoodAction, good_rollback}
use Rattle.meaning.proofs.ActionsFit.{good_insert_row, good_insert_from, good_delete_rows, good_update_rows}
use Rattle.meaning.proofs.StepsFit.{GoodRule}
use Rattle.meaning.proofs.RunsFit.{run-rules, run-log, run-steps}

abbrev pub Masked : RowOperation → Type 0
Masked (inserts r) = Unit {0}
Masked (deletes r) = Unit {0}
Masked (updates mask old new) = IsMask mask

-- ---- The operations of a result

data Fit : Result → Type 0 where
  went_fit : {os : List RowOperation} → Each Masked os → Fit (went os)
  ends_fit : {o : Outcome} {os : List RowOperation} → Each Masked os → Fit (ends o os)

went-fit : {os : List RowOperation} → Fit (went os) → Each Masked os
went-fit (went_fit f) = f

ends-fit : {o : Outcome} {os : List RowOperation} → Fit (ends o os) → Each Masked os
ends-fit (ends_fit f) = f

each_append : {A : Type 0} {P : A → Type 0} {xs ys : List A} → Each P xs → Each P ys → Each P (xs ++ ys)
each_append no_element g = g
each_append (an_element p f) g = an_element p (each_append f g)

each_map : {A B : Type 0} {P : B → Type 0} (f : A → B) (xs : List A) → ((a : A) → P (f a)) → Each P (map f xs)
each_map f [] so = no_element
each_map f (x ∷ xs) so = an_element (so x) (each_map f xs so)

if-fit : {x y : Result} (b : Bool) → Fit x → Fit y → Fit (if b then x else y)
if-fit true p q = p
if-fit false p q = q

maybe-fit : {A : Type 0} {d : Result} {f : A → Result} (o : Option A) → Fit d → ((x : A) → o ≡ some x → Fit (f x)) → Fit (maybe o d f)
maybe-fit none p q = p
maybe-fit (some x) p q = q x refl

and_then-fit : (m : Image) {r : Result} {f : Image → Result} → Fit r → ((n : Image) → Fit (f n)) → Fit (and_then m r f)
unfolding and_then following
and_then-fit m (went_fit {os = os} g) k = go (k (make_all os m))
  where
    go : {r : Result} → Fit r → Fit (following os r)
    go (went_fit h) = went_fit (each_append g h)
    go (ends_fit h) = ends_fit (each_append g h)
and_then-fit m (ends_fit g) k = ends_fit g

updates-fit : (mask : ℕ) → IsMask mask → (rs : List Row) (vss : List (List ℤ)) → Each Masked (updates_of mask rs vss)
unfolding updates_of
updates-fit mask i [] vss = no_element
updates-fit mask i (r ∷ rs) [] = no_element
updates-fit mask i (r ∷ rs) (vs ∷ vss) = an_element i (updates-fit mask i rs vss)

insert_all-fit : (t : ℕ) (vss : List (List ℤ)) (m : Image) → Fit (insert_all t vss m)
unfolding insert_all fails
insert_all-fit t vss m =
    if-fit (ltb most_rows (length m.rows + length vss)) (ends_fit no_element)
    (if-fit (ltb last_handle (m.next + length vss)) (ends_fit no_element) (went_fit (each_map inserts (new_rows t m.next vss) (λ r. tt))))

operate-fit : (q : LogOperation) (m : Image) → GoodOperation q → Fit (operate q m)
unfolding operate delete_all update_all fails
operate-fit (insert t vs) m (good_insert l f) = insert_all-fit t (vs ∷ []) m
operate-fit (delete h) m good_delete = maybe-fit (row_at h m.rows) (ends_fit no_element) (λ r e. went_fit (an_element tt no_element))
operate-fit (update h mask vs) m (good_update i n f) =
    maybe-fit (row_at h m.rows) (ends_fit no_element) (λ r e. went_fit (updates-fit mask i (r ∷ []) (vs ∷ [])))

perform-fit : (t : Transition) (a : Action) (m : Image) → GoodAction a → Fit (perform t a m)
unfolding perform delete_all update_all fails
perform-fit t rollback m good_rollback = ends_fit no_element
perform-fit t (insert_row n vs) m (good_insert_row l f) = insert_all-fit n (vs ∷ []) m
perform-fit t (insert_from_query n q es) m (good_insert_from l k g) =
    maybe-fit (each_or (work_out_all es) (chosen t m.rows q)) (ends_fit no_element) (λ vss e. insert_all-fit n vss m)
perform-fit t (delete_rows n ts) m good_delete_rows = went_fit (each_map deletes (chosen t m.rows (rows_of n ts)) (λ r. tt))
perform-fit t (update_rows n mask es ts) m (good_update_rows i k g) =
    let rs = chosen t m.rows (rows_of n ts) in
    maybe-fit (each_or (work_out_all es) rs) (ends_fit no_element) (λ vss e. went_fit (updates-fit mask i rs vss))

run_log-fit : (qs : List LogOperation) (m : Image) → Each GoodOperation qs → Fit (run_log qs m)
unfolding run_log
run_log-fit [] m no_element = went_fit no_element
run_log-fit (q ∷ qs) m (an_element i is) = and_then-fit m (operate-fit q m i) (λ n. run_log-fit qs n is)

run_actions-fit : (t : Transition) (acts : List Action) (m : Image) → Each GoodAction acts → Fit (run_actions t acts m)
unfolding run_actions
run_actions-fit t [] m no_element = went_fit no_element
run_actions-fit t (a ∷ acts) m (an_element i is) = and_then-fit m (perform-fit t a m i) (λ n. run_actions-fit t acts n is)

-- ---- The operations of a run

module _ (rules : List Rule) (order : List ℕ) (good : Each GoodRule rules) where
  consider-fit : (s : State) (k : ℕ) → Fit (consider rules s k)
  unfolding consider consider_rule consider_with
  consider-fit s k = maybe-fit (get_elem? rules k) (went_fit no_element) (λ r e.
      let t = transition r s.image.rows (waits s k) in
      if-fit (condition_holds t s.image.rows r.condition)
      (run_actions-fit t r.actions s.image (each-element k good e).actions_good) (went_fit no_element))

  steps-fit : {left count : ℕ} {s : State} {e : Ending} → Steps rules order left count s e → Each Masked (operations_in e.trace)
  unfolding ended after_events consideration operations_in
  steps-fit (commits t) = no_element
  steps-fit (meets_limit t) = no_element
  steps-fit (ends_run {k = k} {s = s} {new = new} t c) = rw (operations-made new) (ends-fit (rw c at (consider-fit s k)))
  steps-fit (goes_on {k = k} {s = s} {new = new} {e = e} t c more) =
      rw (operations-append (map made new) e.trace, operations-made new)
      (each_append (went-fit (rw c at (consider-fit s k))) (steps-fit more))

  runs_fit : {limit : ℕ} {log : List LogOperation} {start : Image} {e : Ending} → Each GoodOperation log
      → Runs rules order limit log start e → Each Masked (operations_in e.trace)
  unfolding ended after_events
  runs_fit {log = log} {start = start} g (log_ends {new = new} l) = rw (operations-made new) (ends-fit (rw l at (run_log-fit log start g)))
  runs_fit {log = log} {start = start} g (log_done {new = new} {e = e} l more) =
      rw (operations-append (map made new) e.trace, operations-made new)
      (each_append (went-fit (rw l at (run_log-fit log start g))) (steps-fit more))

pub run-masks : {image book log : List ℕ} (a : Accepted image book log) → Each Masked (operations_in (ending_of a).trace)
run-masks a = runs_fit a.rule_book.rules a.order (run-rules a) (run-log a) (run-steps a)
