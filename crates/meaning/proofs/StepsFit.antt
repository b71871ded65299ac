-- Every row operation of a run fits the image that it is made on, and the image at the end is the start image with all of them made on it.
-- A rule's transition tables hold live rows, and rows that an operation deleted or updated when they were live: all of them are proper.
use Rattle.std.specs.Prelude.{if◌then◌else◌}
use mathlib.Core.Path.{◌≡◌, refl, sym, ap, ◌∙◌, subst}
use mathlib.Core.Bool.{Bool, true, false}
use mathlib.Core.List.{List, [], ◌∷◌, ◌++◌, append-nil, append_assoc}
use mathlib.Core.Option.{Option, none, some}
use Prim.Native.Nat.{ℕ, suc}
use lib.Dec.{eqb}
use lib.ListN.{get_or, get_elem?}
use Rattle.meaning.specs.Base.{maybe, before, gather, Each, no_element, an_element}
use Rattle.meaning.specs.Covers.{Row, Image, Rule, Action, LogOperation, Outcome, commit, step_limit}
use Rattle.meaning.specs.RowOperations.{RowOperation, inserts, deletes, updates, Effect, NetEffect, nothing, inserted, deleted}
use Rattle.meaning.specs.RowOperations.{updated, handle_of, row_at, make_all, kind, join_kind, over, joined_as, join, effect_of, single}
use Rattle.meaning.specs.RowOperations.{joined_on, net, named, entry, entries, net_effect}
use Rattle.meaning.specs.Processing.{State, Event, Ending, ended, after_events, since, waits, run_log, condition_holds, run_actions}
use Rattle.meaning.specs.Processing.{consider_with, consider_rule, consider, moved, consideration, after_log}
use Rattle.meaning.specs.Processing.TransitionTables.{Transition, meets, own_table, own_row, deleted_row, old_row, live_row, inserted_row}
use Rattle.meaning.specs.Processing.TransitionTables.{new_row, transition}
use Rattle.meaning.specs.Processing.Actions.{went, ends}
use Rattle.meaning.specs.Trace.{operations_in}
use Rattle.meaning.specs.Made.{Proper, Sound, delete_fits, update_fits, Made}
use Rattle.meaning.specs.Made as Of
use Rattle.meaning.proofs.Lists.{clash, same_some, each-drop, each-element, if-so}
use Rattle.meaning.proofs.Lookups.{found-so, make_all-append, made-append}
use Rattle.meaning.proofs.Images.{rising-proper, make-sound, make_all-sound}
use Rattle.meaning.proofs.Traces.{operations-append, operations-made, Steps, commits, meets_limit, ends_run, goes_on, Runs, log_ends}
use Rattle.meaning.proofs.Traces.{log_done}
use Rattle.meaning.proofs.ActionsFit.{GoodOperation, GoodAction, Breaks, MadeOf, went_made, ends_made, and_then-made}
use Rattle.meaning.proofs.ActionsFit.{operate-made, perform-made, proper-ranged, RangedTables}

-- ---- The rows of effects

-- the row of an effect, where it has one, is so
pub data RowOf (P : Row → Type 0) : Effect → Type 0 where
  of_nothing : RowOf P nothing
  of_inserted : {t : ℕ} → RowOf P (inserted t)
  of_deleted : {r : Row} → P r → RowOf P (deleted r)
  of_updated : {m : ℕ} {r : Row} → P r → RowOf P (updated m r)

module _ {P : Row → Type 0} where
  over-row : {a b : Effect} → RowOf P a → RowOf P b → RowOf P (over a b)
  unfolding over
  over-row of_nothing q = q
  over-row of_inserted q = q
  over-row (of_deleted p) q = q
  over-row (of_updated p) of_nothing = of_nothing
  over-row (of_updated p) of_inserted = of_inserted
  over-row (of_updated p) (of_deleted q) = of_deleted q
  over-row (of_updated p) (of_updated q) = of_updated p

  join-row : {a b : Effect} → RowOf P a → RowOf P b → RowOf P (join a b)
  unfolding join joined_as
  join-row {a} {b} p q = go (eqb (join_kind (kind a) (kind b)) 0) (eqb (join_kind (kind a) (kind b)) (kind b))
    where
      go : (s t : Bool) → RowOf P (if s then nothing else if t then over a b else a)
      go true t = of_nothing
      go false true = over-row p q
      go false false = p

  single-row : (h : ℕ) (o : RowOperation) → RowOf P (effect_of o) → RowOf P (single h o)
  unfolding single
  single-row h o p = go (eqb (handle_of o) h)
    where
      go : (b : Bool) → RowOf P (if b then effect_of o else nothing)
      go true = p
      go false = of_nothing

  joined_on-row : (h : ℕ) (e : Effect) (os : List RowOperation) → RowOf P e → Each (λ o. RowOf P (effect_of o)) os → RowOf P (joined_on h e os)
  unfolding joined_on
  joined_on-row h e [] p no_element = p
  joined_on-row h e (o ∷ os) p (an_element q qs) = joined_on-row h (join e (single h o)) os (join-row p (single-row h o q)) qs

  entry_row : (h : ℕ) {e : Effect} {es : NetEffect} → RowOf P e → Each (λ p. RowOf P p.1) es → Each (λ p. RowOf P p.1) (entry h e es)
  unfolding entry
  entry_row h of_nothing q = q
  entry_row h of_inserted q = an_element of_inserted q
  entry_row h (of_deleted p) q = an_element (of_deleted p) q
  entry_row h (of_updated p) q = an_element (of_updated p) q

  entries-row : (f : ℕ → Effect) (hs : List ℕ) → ((h : ℕ) → RowOf P (f h)) → Each (λ p. RowOf P p.1) (entries f hs)
  unfolding entries
  entries-row f [] g = no_element
  entries-row f (h ∷ hs) g = entry_row h (g h) (entries-row f hs g)

  -- each row of a net effect is that of one of its operations
  pub net_effect-row : (os : List RowOperation) → Each (λ o. RowOf P (effect_of o)) os → Each (λ p. RowOf P p.1) (net_effect os)
  unfolding net_effect net
  net_effect-row os g = entries-row (λ h. net h os) (named os) (λ h. joined_on-row h nothing os of_nothing g)

-- the rows of operations that fit a sound image are proper
pub made-rows : {m : Image} {os : List RowOperation} → Sound m → Made m os → Each (λ o. RowOf Proper (effect_of o)) os
unfolding effect_of
made-rows s Of.none = no_element
made-rows {m} s (Of.more {o = inserts r} f g) = an_element of_inserted (made-rows (make-sound s f) g)
made-rows {m} s (Of.more {o = deletes r} (delete_fits q) g) =
    an_element (of_deleted (found-so r.handle r (rising-proper s.rises) q)) (made-rows (make-sound s (delete_fits q)) g)
made-rows {m} s (Of.more {o = updates k old new} (update_fits q d p) g) =
    an_element (of_updated (found-so old.handle old (rising-proper s.rises) q)) (made-rows (make-sound s (update_fits q d p)) g)

-- ---- Transition tables

pub gather-each : {A B : Type 0} {P : A → Type 0} {Q : B → Type 0} {xs : List A} (f : A → Option B)
    → ((a : A) (b : B) → P a → f a ≡ some b → Q b) → Each P xs → Each Q (gather f xs)
gather-each f g no_element = no_element
gather-each {B = B} {Q = Q} f g (an_element {x = x} {xs = xs} p ps) = go (f x) refl (gather-each f g ps)
  where
    go : (o : Option B) → f x ≡ o → Each Q (gather f xs) → Each Q (before o (gather f xs))
    go none e ih = ih
    go (some b) e ih = an_element (g x b p e) ih

module _ (rule : Rule) where
  own-proper : (r b : Row) → Proper r → own_row rule r ≡ some b → Proper b
  unfolding own_row
  own-proper r b p e = go (own_table rule r.table) e
    where
      go : (t : Bool) → (if t then some r else none) ≡ some b → Proper b
      go true e = subst Proper (same_some e) p
      go false e = clash refl e

  deleted-proper : (e : Effect) (b : Row) → RowOf Proper e → deleted_row rule e ≡ some b → Proper b
  unfolding deleted_row
  deleted-proper nothing b p q = clash refl q
  deleted-proper (inserted t) b p q = clash refl q
  deleted-proper (deleted r) b (of_deleted p) q = own-proper r b p q
  deleted-proper (updated m r) b p q = clash refl q

  old-proper : (e : Effect) (b : Row) → RowOf Proper e → old_row rule e ≡ some b → Proper b
  unfolding old_row
  old-proper nothing b p q = clash refl q
  old-proper (inserted t) b p q = clash refl q
  old-proper (deleted r) b p q = clash refl q
  old-proper (updated m r) b (of_updated p) q = go (meets rule m) q
    where
      go : (t : Bool) → (if t then own_row rule r else none) ≡ some b → Proper b
      go true q = own-proper r b p q
      go false q = clash refl q

  module _ (rows : List Row) (live : Each Proper rows) where
    live-proper : (h : ℕ) (b : Row) → live_row rule rows h ≡ some b → Proper b
    unfolding live_row
    live-proper h b q = go (row_at h rows) refl q
      where
        go : (o : Option Row) → row_at h rows ≡ o → maybe o none (own_row rule) ≡ some b → Proper b
        go none e q = clash refl q
        go (some r) e q = own-proper r b (found-so h r live e) q

    inserted-proper : (h : ℕ) (e : Effect) (b : Row) → inserted_row rule rows h e ≡ some b → Proper b
    unfolding inserted_row
    inserted-proper h nothing b q = clash refl q
    inserted-proper h (inserted t) b q = live-proper h b q
    inserted-proper h (deleted r) b q = clash refl q
    inserted-proper h (updated m r) b q = clash refl q

    new-proper : (h : ℕ) (e : Effect) (b : Row) → new_row rule rows h e ≡ some b → Proper b
    unfolding new_row
    new-proper h nothing b q = clash refl q
    new-proper h (inserted t) b q = clash refl q
    new-proper h (deleted r) b q = clash refl q
    new-proper h (updated m r) b q = go (meets rule m) q
      where
        go : (t : Bool) → (if t then live_row rule rows h else none) ≡ some b → Proper b
        go true q = live-proper h b q
        go false q = clash refl q

    transition-ranged : (given : NetEffect) → Each (λ p. RowOf Proper p.1) given → RangedTables (transition rule rows given)
    unfolding transition
    transition-ranged given g =
        record {
          of_inserted = gather-each (λ p. inserted_row rule rows p.0 p.1) (λ p b f q. proper-ranged (inserted-proper p.0 p.1 b q)) g;
          of_deleted = gather-each (λ p. deleted_row rule p.1) (λ p b f q. proper-ranged (deleted-proper p.1 b f q)) g;
          of_new = gather-each (λ p. new_row rule rows p.0 p.1) (λ p b f q. proper-ranged (new-proper p.0 p.1 b q)) g;
          of_old = gather-each (λ p. old_row rule p.1) (λ p b f q. proper-ranged (old-proper p.1 b f q)) g;
        }

-- ---- The log, and a consideration

pub run_log-made : (qs : List LogOperation) (m : Image) → Each GoodOperation qs → Sound m → MadeOf m (run_log qs m)
unfolding run_log
run_log-made [] m no_element s = went_made Of.none
run_log-made (q ∷ qs) m (an_element g gs) s = and_then-made s (operate-made q m g s) (λ n c. run_log-made qs n gs c)

pub run_actions-made : (t : Transition) (more : List Action) (m : Image) → RangedTables t → Each GoodAction more → Sound m
    → MadeOf m (run_actions t more m)
unfolding run_actions
run_actions-made t [] m p no_element s = went_made Of.none
run_actions-made t (a ∷ more) m p (an_element g gs) s = and_then-made s (perform-made t a m p g s) (λ n c. run_actions-made t more n p gs c)

pub record GoodRule (r : Rule) : Type 0 where
  pub actions_good : Each GoodAction r.actions

pub consider_rule-made : (r : Rule) (given : NetEffect) (m : Image) → GoodRule r → Each (λ p. RowOf Proper p.1) given → Sound m
    → MadeOf m (consider_rule r given m)
unfolding consider_rule consider_with
consider_rule-made r given m g f s =
    let t = transition r m.rows given in
    let p = transition-ranged r m.rows (rising-proper s.rises) given f in
    if-so (MadeOf m) (condition_holds t m.rows r.condition)
    (λ e. run_actions-made t r.actions m p g.actions_good s) (λ e. went_made Of.none)

-- a rule of the book is considered with what waits for it, on the image as it is
pub considers : (rules : List Rule) (s : State) (k : ℕ) (r : Rule) → get_elem? rules k ≡ some r
    → consider rules s k ≡ consider_rule r (waits s k) s.image
unfolding consider
considers rules s k r e = rw e

considers-none : (rules : List Rule) (s : State) (k : ℕ) → get_elem? rules k ≡ none → consider rules s k ≡ went []
unfolding consider
considers-none rules s k e = rw e

-- ---- The steps

-- after the operations of before, those of the ending fit, and its image is the start image with all of them made on it
pub record Replays (start : Image) (before : List RowOperation) (e : Ending) : Type 0 where
  pub fits : Made start (before ++ operations_in e.trace)
  pub replayed : e.image ≡ make_all (before ++ operations_in e.trace) start

-- an ending whose trace holds the operations `new`
replays-ended : (start : Image) (before new : List RowOperation) (o : Outcome) (n : ℕ) (m : Image) (es : List Event) → operations_in es ≡ new
    → Made start (before ++ new) → m ≡ make_all (before ++ new) start → Replays start before (ended o n m es)
unfolding ended
replays-ended start before new o n m es e f g = record { fits = rw e f; replayed = rw e g }

-- an ending after events whose operations are `new`
replays-after : (start : Image) (before new : List RowOperation) (es : List Event) (e : Ending) → operations_in es ≡ new
    → Replays start (before ++ new) e → Replays start before (after_events es e)
unfolding after_events ended
replays-after start before new es e q r =
    let same : before ++ operations_in (es ++ e.trace) ≡ (before ++ new) ++ operations_in e.trace =
    rw (operations-append es e.trace, q) (sym (append_assoc before new (operations_in e.trace))) in
    record { fits = rw same r.fits; replayed = rw same r.replayed }

module _ (rules : List Rule) (order : List ℕ) (start : Image) (good : Each GoodRule rules) (sound : Sound start) where
  -- the operations so far fit, and the image is the start image with them made on it
  pub record Built (s : State) : Type 0 where
    pub done_fits : Made start s.done
    pub image_is : s.image ≡ make_all s.done start

  waits-proper : (s : State) (k : ℕ) → Built s → Each (λ p. RowOf Proper p.1) (waits s k)
  unfolding waits since
  waits-proper s k a = net_effect-row (since s k) (each-drop (get_or s.marks k 0) (made-rows sound a.done_fits))

  consider-made : (s : State) (k : ℕ) → Built s → MadeOf s.image (consider rules s k)
  consider-made s k a = go (get_elem? rules k) refl
    where
      go : (o : Option Rule) → get_elem? rules k ≡ o → MadeOf s.image (consider rules s k)
      go none e = rw (considers-none rules s k e) (went_made Of.none)
      go (some r) e =
          rw (considers rules s k r e)
          (consider_rule-made r (waits s k) s.image (each-element k good e) (waits-proper s k a)
          (rw a.image_is (make_all-sound sound a.done_fits)))

  consideration-operations : (s : State) (k : ℕ) (new : List RowOperation) → operations_in (consideration rules s k new) ≡ new
  unfolding consideration operations_in
  consideration-operations s k new = operations-made new

  module _ {s : State} (a : Built s) where
    -- new operations on the image so far
    further-fits : {new : List RowOperation} → Made s.image new → Made start (s.done ++ new)
    further-fits {new} g = made-append a.done_fits (subst (λ (m : Image). Made m new) a.image_is g)

    further-image : (new : List RowOperation) → make_all new s.image ≡ make_all (s.done ++ new) start
    further-image new = ap (make_all new) a.image_is ∙ sym (make_all-append s.done new start)

    -- a consideration goes on with operations that fit
    pub built-moved : (k : ℕ) {new : List RowOperation} → consider rules s k ≡ went new → Built (moved rules s k new)
    unfolding moved
    built-moved k {new} c = go (rw c at (consider-made s k a))
      where
        go : MadeOf s.image (went new) → Built (moved rules s k new)
        go (went_made g) = record { done_fits = further-fits g; image_is = further-image new }

    -- or ends the run, with an outcome that breaks it off
    pub consider-ends : (k : ℕ) {o : Outcome} {new : List RowOperation} → consider rules s k ≡ ends o new
        → Breaks o × Made start (s.done ++ new)
    consider-ends k {o} {new} c = go (rw c at (consider-made s k a))
      where
        go : MadeOf s.image (ends o new) → Breaks o × Made start (s.done ++ new)
        go (ends_made n g) = (n, further-fits g)

    replays-now : (o : Outcome) (n : ℕ) → Replays start s.done (ended o n s.image [])
    unfolding operations_in
    replays-now o n =
        replays-ended start s.done [] o n s.image [] refl (rw append-nil a.done_fits) (rw append-nil a.image_is)

  pub steps-replay : {left count : ℕ} {s : State} {e : Ending} → Steps rules order left count s e → Built s → Replays start s.done e
  unfolding moved
  steps-replay (commits {count = n} t) a = replays-now a commit n
  steps-replay (meets_limit {count = n} t) a = replays-now a step_limit n
  steps-replay (ends_run {count = n} {k = k} {s = s} {o = o} {new = new} t c) a =
      replays-ended start s.done new o (suc n) _ _ (consideration-operations s k new) (consider-ends a k c).1 (further-image a new)
  steps-replay (goes_on {k = k} {s = s} {new = new} {e = e} t c more) a =
      replays-after start s.done new _ e (consideration-operations s k new) (steps-replay more (built-moved a k c))

  module _ {log : List LogOperation} (good_log : Each GoodOperation log) where
    pub built-log : {new : List RowOperation} → run_log log start ≡ went new → Built (after_log rules order start new)
    unfolding after_log
    built-log {new} l = go (rw l at (run_log-made log start good_log sound))
      where
        go : MadeOf start (went new) → Built (after_log rules order start new)
        go (went_made g) = record { done_fits = g; image_is = refl }

    pub log-ends : {o : Outcome} {new : List RowOperation} → run_log log start ≡ ends o new → Breaks o × Made start new
    log-ends {o} {new} l = go (rw l at (run_log-made log start good_log sound))
      where
        go : MadeOf start (ends o new) → Breaks o × Made start new
        go (ends_made n g) = (n, g)

    pub runs-replay : {limit : ℕ} {e : Ending} → Runs rules order limit log start e → Replays start [] e
    unfolding after_log
    runs-replay (log_ends {o = o} {new = new} l) = replays-ended start [] new o 0 _ _ (operations-made new) (log-ends l).1 refl
    runs-replay (log_done {new = new} {e = e} l more) =
        replays-after start [] new _ e (operations-made new) (steps-replay more (built-log l))
