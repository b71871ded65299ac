-- The ending of an accepted run is lawful: its steps lead from state to state, and in each of them the sentences about the next
-- consideration, or about the end, are read off the trace so far.
use mathlib.Core.Path.{◌≡◌, refl, sym, ◌∙◌, subst}
use mathlib.Core.Bool.{true, false}
use mathlib.Core.List.{List, [], ◌∷◌, ◌++◌, map, append-nil}
use mathlib.Core.Option.{some}
use Prim.Native.Nat.{ℕ, ◌≤◌}
use native.Mathlib.Omega.{arith}
use lib.Seq.{append_snoc}
use Rattle.meaning.specs.Base.{first_with}
use Rattle.meaning.specs.Covers.{Rule, Outcome, commit, rolled_back, step_limit, failed}
use Rattle.meaning.specs.RowOperations.{RowOperation, NetEffect}
use Rattle.meaning.specs.Processing.{State, Event, made, considered, Ending, ended, after_events, waits, run_log, consider_rule}
use Rattle.meaning.specs.Processing.{consider, consideration, first_triggered}
use Rattle.meaning.specs.Trace.{considerations_in, Consideration, Rest, further, at_commit, at_limit, Makes}
use Rattle.meaning.specs.Runs.{Accepted, ending_of, waits_for, numbered, is_triggered, image_after}
use Rattle.meaning.specs.Theorems.Lawful.{Lawful}
use Rattle.meaning.proofs.Lists.{first-is}
use Rattle.meaning.proofs.Traces.{considerations-made, Steps, commits, meets_limit, ends_run, goes_on, Runs, log_ends, log_done}
use Rattle.meaning.proofs.ActionsFit.{Breaks, by_rollback, by_failure}
use Rattle.meaning.proofs.StepsFit.{considers, consider-ends, log-ends}
use Rattle.meaning.proofs.RunsFit.{run_sound, run-rules, run-log, run-steps, run-replayed}
use Rattle.meaning.proofs.States.{StateAfter, state-log, one_more, state-moved, image-is, waits-is, search_is, none-triggered}

-- ---- The sentences, place by place, of a run that ends as e

module _ {image book log : List ℕ} (a : Accepted image book log) (e : Ending) where
  -- of a consideration, after the events of the past
  record Turn (past : List Event) (k : ℕ) (given : NetEffect) (after : List Event) : Type 0 where
    pub is_first : first_with (is_triggered a past) a.order ≡ some k
    pub is_given : given ≡ waits_for k past
    pub acts : (r : Rule) → numbered a k ≡ some r → Makes e (consider_rule r given (image_after a past)) after

  -- of the end, with this outcome
  abbrev EndDue : List Event → Outcome → Type 0
  EndDue past commit = (k : ℕ) → is_triggered a past k ≡ false
  EndDue past step_limit = ((k : ℕ) × (is_triggered a past k ≡ true)) × (e.count ≡ a.rule_book.limit)
  EndDue past rolled_back = Unit {0}
  EndDue past (failed r) = Unit {0}

  record End (past : List Event) : Type 0 where
    pub due : EndDue past e.outcome
    pub within : e.count ≤ a.rule_book.limit
    pub counted : e.count ≡ considerations_in past

  -- of each consideration among the events that follow, and of the end
  abbrev Along : List Event → List Event → Type 0
  Along past [] = End past
  Along past (made o ∷ es) = Along (past ++ (made o ∷ [])) es
  Along past (considered k given ∷ es) = Turn past k given es × Along (past ++ (considered k given ∷ [])) es

  turn_at : (before : List Event) {k : ℕ} {given : NetEffect} {after : List Event} (past : List Event)
      → Along past (before ++ (considered k given ∷ after)) → Turn (past ++ before) k given after
  turn_at [] past t = rw append-nil t.0
  turn_at (made o ∷ before) past t = rw (← append_snoc past (made o) before) (turn_at before (past ++ (made o ∷ [])) t)
  turn_at (considered j g ∷ before) past t =
      rw (← append_snoc past (considered j g) before) (turn_at before (past ++ (considered j g ∷ [])) t.1)

  end-at : (es past : List Event) → Along past es → End (past ++ es)
  end-at [] past t = rw append-nil t
  end-at (made o ∷ es) past t = rw (← append_snoc past (made o) es) (end-at es (past ++ (made o ∷ [])) t)
  end-at (considered j g ∷ es) past t =
      rw (← append_snoc past (considered j g) es) (end-at es (past ++ (considered j g ∷ [])) t.1)

  along-made : (new : List RowOperation) (past es : List Event) → Along (past ++ map made new) es → Along past (map made new ++ es)
  along-made [] past es t = rw append-nil at t
  along-made (o ∷ new) past es t =
      along-made new (past ++ (made o ∷ [])) es (rw (append_snoc past (made o) (map made new)) t)

  -- ---- The steps

  broken : (past : List Event) {o : Outcome} → Breaks o → EndDue past o
  broken past by_rollback = tt
  broken past by_failure = tt

  module _ {past : List Event} {left count : ℕ} {s : State} (h : StateAfter a past left count s) where
    turn-now : {k : ℕ} {after : List Event} → first_triggered a.rule_book.rules a.order s ≡ some k
        → Makes e (consider a.rule_book.rules s k) after → Turn past k (waits s k) after
    turn-now {k} t m =
        record {
          is_first = sym (search_is a h) ∙ t;
          is_given = waits-is a h k;
          acts = λ r b. rw (← image-is a h, ← considers a.rule_book.rules s k r b) m;
        }

    along-considered : {k : ℕ} (new : List RowOperation) (es : List Event) → Turn past k (waits s k) (map made new ++ es)
        → Along (past ++ consideration a.rule_book.rules s k new) es → Along past (consideration a.rule_book.rules s k new ++ es)
    unfolding consideration
    along-considered {k} new es t more =
        let now = considered k (waits s k) in
        (t, along-made new (past ++ (now ∷ [])) es (rw (append_snoc past now (map made new)) more))

  -- the steps begin with a consideration, or there are none, and the run commits or has reached the limit
  steps-rest : {left count : ℕ} {s : State} {f : Ending} → Steps a.rule_book.rules a.order left count s f
      → e.outcome ≡ f.outcome → Rest e f.trace
  unfolding ended after_events consideration
  steps-rest (commits t) o = at_commit o
  steps-rest (meets_limit t) o = at_limit o
  steps-rest (ends_run t c) o = further
  steps-rest (goes_on t c more) o = further

  steps-along : {past : List Event} {left count : ℕ} {s : State} {f : Ending} → Steps a.rule_book.rules a.order left count s f
      → StateAfter a past left count s → e.outcome ≡ f.outcome → e.count ≡ f.count → Along past f.trace
  unfolding ended after_events
  steps-along {past} (commits t) h o n =
      record {
        due = subst (EndDue past) (sym o) (λ k. none-triggered a past k (sym (search_is a h) ∙ t));
        within = omega (arith, h.allowed);
        counted = n ∙ h.counts;
      }
  steps-along {past} (meets_limit {k = k} t) h o n =
      let found = first-is (is_triggered a past) a.order k (sym (search_is a h) ∙ t) in
      record {
        due = subst (EndDue past) (sym o) ((k, found.passes), omega (arith, h.allowed));
        within = omega (arith, h.allowed);
        counted = n ∙ h.counts;
      }
  steps-along {past} (ends_run {k = k} {s = s} {new = new} t c) h o n =
      let breaks = (consider-ends a.rule_book.rules a.order a.start (run-rules a) (run_sound a) h.built k c).0 in
      let end : End (past ++ consideration a.rule_book.rules s k new) =
      record { due = subst (EndDue _) (sym o) (broken _ breaks); within = omega (arith, h.allowed); counted = n ∙ one_more a h k new } in
      rw append-nil at (along-considered h new [] (turn-now h t (rw (c, append-nil) (refl, o))) end)
  steps-along {past = past} (goes_on {k = k} {s = s} {new = new} {e = f} t c more) h o n =
      along-considered h new f.trace (turn-now h t (rw c (f.trace, refl, steps-rest more o)))
      (steps-along {past = past ++ consideration a.rule_book.rules s k new} more (state-moved a h t c) o n)

  -- and the log before them
  runs-along : {f : Ending} → Runs a.rule_book.rules a.order a.rule_book.limit a.operations a.start f
      → e.outcome ≡ f.outcome → e.count ≡ f.count → Makes e (run_log a.operations a.start) f.trace × Along [] f.trace
  unfolding ended after_events
  runs-along (log_ends {new = new} l) o n =
      let breaks = (log-ends a.rule_book.rules a.order a.start (run-rules a) (run_sound a) (run-log a) l).0 in
      let end : End (map made new) =
      record { due = subst (EndDue _) (sym o) (broken _ breaks); within = omega arith; counted = n ∙ rw (considerations-made new) } in
      (rw l (refl, o), rw append-nil at (along-made new [] [] end))
  runs-along (log_done {new = new} {e = f} l more) o n =
      (rw l (f.trace, refl, steps-rest more o), along-made new [] f.trace (steps-along more (state-log a l) o n))

-- ---- The statement

module _ {image book log : List ℕ} (a : Accepted image book log) where
  sentences : Makes (ending_of a) (run_log a.operations a.start) (ending_of a).trace × Along a (ending_of a) [] (ending_of a).trace
  sentences = runs-along a (ending_of a) (run-steps a) refl refl

  at_turn : (c : Consideration (ending_of a)) → Turn a (ending_of a) c.before c.number c.given c.after
  at_turn c = turn_at a (ending_of a) c.before [] (subst (Along a (ending_of a) []) c.place sentences.1)

  at-end : End a (ending_of a) (ending_of a).trace
  at-end = end-at a (ending_of a) (ending_of a).trace [] sentences.1

  due-at : {o : Outcome} → (ending_of a).outcome ≡ o → EndDue a (ending_of a) (ending_of a).trace o
  due-at q = subst (EndDue a (ending_of a) (ending_of a).trace) q at-end.due

  pub is_lawful : Lawful a (ending_of a)
  unfolding image_after
  is_lawful =
      record {
        begins = sentences.0;
        first = λ c. (at_turn c).is_first;
        given = λ c. (at_turn c).is_given;
        acts = λ c. (at_turn c).acts;
        commits = due-at;
        stops = λ o. (due-at o).0;
        reached = λ o. (due-at o).1;
        within = at-end.within;
        counted = at-end.counted;
        replayed = run-replayed a;
      }
