-- A lawful ending is the one that `process` gives: from each state that its trace leads to, the steps give what is left of it, by induction
-- on the considerations that are left. What may come next in the trace, by the sentences, is the next step.
use mathlib.Core.Path.{◌≡◌, refl, sym, ap, ◌∙◌}
use mathlib.Core.Bool.{true, false}
use mathlib.Core.List.{List, [], ◌∷◌, ◌++◌, map, append-nil, append_assoc}
use mathlib.Core.Option.{Option, none, some}
use Prim.Native.Nat.{ℕ, zero, suc, ◌+◌}
use native.Mathlib.Omega.{arith}
use Rattle.meaning.specs.Base.{first_with}
use Rattle.meaning.specs.Covers.{Image, Rule, Outcome, commit, step_limit}
use Rattle.meaning.specs.RowOperations.{RowOperation, NetEffect, make_all}
use Rattle.meaning.specs.Processing.{State, Event, made, considered, Ending, ended, after_events, waits, run_log, consider, moved}
use Rattle.meaning.specs.Processing.{consideration, first_triggered, steps, after_log, process}
use Rattle.meaning.specs.Processing.Actions.{Result, went, ends, onward}
use Rattle.meaning.specs.Trace.{operations_in, considerations_in, Consideration, Rest, further, at_commit, at_limit, Makes}
use Rattle.meaning.specs.Runs.{Accepted, ending_of, numbered, is_triggered, image_after}
use Rattle.meaning.specs.Theorems.Lawful.{Lawful}
use Rattle.meaning.proofs.Lists.{true-is-false, first-is}
use Rattle.meaning.proofs.Lookups.{make_all-append}
use Rattle.meaning.proofs.Traces.{operations-append, operations-made, considerations-append, considerations-made}
use Rattle.meaning.proofs.StepsFit.{considers}
use Rattle.meaning.proofs.Marks.{first-rule}
use Rattle.meaning.proofs.States.{StateAfter, state-log, one_more, state-moved, image-is, waits-is, search_is, none-triggered}

after_both : (es fs : List Event) (e : Ending) → after_events (es ++ fs) e ≡ after_events es (after_events fs e)
unfolding ended after_events
after_both es fs e = ap (λ (l : List Event). ended e.outcome e.count e.image l) (append_assoc es fs e.trace)

module _ {image book log : List ℕ} (a : Accepted image book log) where
  image-made : (new : List RowOperation) → make_all new a.start ≡ image_after a (map made new)
  unfolding image_after
  image-made new = rw (operations-made new)

  image-more : {past : List Event} {left count : ℕ} {s : State} → StateAfter a past left count s → (k : ℕ) (new : List RowOperation)
      → make_all new s.image ≡ image_after a (past ++ consideration a.rule_book.rules s k new)
  unfolding image_after consideration operations_in
  image-more {past} {s = s} h k new =
      rw (operations-append past (considered k (waits s k) ∷ map made new), operations-made new, make_all-append, image-is a h)

  -- ---- The search, from the sentences about the end

  module _ (past : List Event) where
    finds-none : ((k : ℕ) → is_triggered a past k ≡ false) → first_with (is_triggered a past) a.order ≡ none
    finds-none f = go (first_with (is_triggered a past) a.order) refl
      where
        go : (o : Option ℕ) → first_with (is_triggered a past) a.order ≡ o → o ≡ none
        go none q = refl
        go (some k) q = true-is-false (first-is (is_triggered a past) a.order k q).passes (f k)

    finds-one : (k : ℕ) → is_triggered a past k ≡ true → (j : ℕ) × (first_with (is_triggered a past) a.order ≡ some j)
    finds-one k t = go (first_with (is_triggered a past) a.order) refl
      where
        go : (o : Option ℕ) → first_with (is_triggered a past) a.order ≡ o → (j : ℕ) × (o ≡ some j)
        go none q = true-is-false t (none-triggered a past k q)
        go (some j) q = (j, refl)

  -- ---- A lawful ending

  module _ (e : Ending) (l : Lawful a e) where
    -- it is told by its outcome and its trace
    told : {o : Outcome} {n : ℕ} {m : Image} {past : List Event} → e.outcome ≡ o → e.trace ≡ past → n ≡ considerations_in past
        → m ≡ image_after a past → e ≡ ended o n m past
    unfolding ended
    told o q n m = λ i. record {
      outcome = o i;
      count = (l.counted ∙ ap considerations_in q ∙ sym n) i;
      image = (l.replayed ∙ ap (image_after a) q ∙ sym m) i;
      trace = q i;
    }

    -- from a state, the steps give what is left of it
    abbrev From : ℕ → ℕ → List Event → State → Type 0
    From left count past s = e ≡ after_events past (steps a.rule_book.rules a.order left count s)

    abbrev FromAny : ℕ → Type 0
    FromAny left = (past rest : List Event) (count : ℕ) (s : State) → StateAfter a past left count s → Rest e rest → e.trace ≡ past ++ rest
        → From left count past s

    module _ {past : List Event} {left count : ℕ} {s : State} (h : StateAfter a past left count s) where
      count-here : (rest : List Event) → e.trace ≡ past ++ rest → e.count ≡ count + considerations_in rest
      count-here rest q = rw h.counts (l.counted ∙ ap considerations_in q ∙ considerations-append past rest)

      -- it ends here
      ends-here : {o : Outcome} → e.outcome ≡ o → e.trace ≡ past ++ [] → e ≡ after_events past (ended o count s.image [])
      unfolding ended after_events
      ends-here o q = rw append-nil (told o (q ∙ append-nil past) h.counts (image-is a h))

      none_here : e.outcome ≡ commit → e.trace ≡ past ++ [] → first_triggered a.rule_book.rules a.order s ≡ none
      none_here o q = search_is a h ∙ finds-none past (λ k. rw (q ∙ append-nil past) at (l.commits o k))

      one-here : e.outcome ≡ step_limit → e.trace ≡ past ++ [] → (k : ℕ) × (first_triggered a.rule_book.rules a.order s ≡ some k)
      one-here o q =
          let t = finds-one past (l.stops o).0 (rw (q ∙ append-nil past) at (l.stops o).1) in (t.0, search_is a h ∙ t.1)

    -- a consideration of rule k comes next
    module _ {past : List Event} {left count : ℕ} {s : State} (h : StateAfter a past (suc left) count s)
        (k : ℕ) (g : NetEffect) (es : List Event) (q : e.trace ≡ past ++ (considered k g ∷ es)) where
      abbrev here : Consideration e
      here = record { before = past; number = k; given = g; after = es; place = q }

      turn : first_triggered a.rule_book.rules a.order s ≡ some k
      turn = search_is a h ∙ l.first here

      is-given : g ≡ waits s k
      is-given = l.given here ∙ sym (waits-is a h k)

      makes-by : (r : Rule) → numbered a k ≡ some r → Makes e (consider a.rule_book.rules s k) es
      makes-by r b = rw (considers a.rule_book.rules s k r b, ← is-given, image-is a h) (l.acts here r b)

      makes : Makes e (consider a.rule_book.rules s k) es
      makes = let r = first-rule a.rule_book.rules a.order s k turn in makes-by r.0 r.1

      trace-is : {fs : List Event} → es ≡ fs → e.trace ≡ past ++ (considered k (waits s k) ∷ fs)
      trace-is p = rw (← is-given, ← p) q

      considers-one : FromAny left → From (suc left) count past s
      unfolding steps onward ended after_events consideration
      considers-one more = go (consider a.rule_book.rules s k) refl makes
        where
          go : (r : Result) → consider a.rule_book.rules s k ≡ r → Makes e r es → From (suc left) count past s
          go (ends o new) c (m, p) = rw (turn, c) (told p (trace-is m) (one_more a h k new) (image-more h k new))
          go (went new) c (rest, m, rests) =
              let now = consideration a.rule_book.rules s k new in
              rw (turn, c)
              (more (past ++ now) rest (suc count) (moved a.rule_book.rules s k new) (state-moved a h turn c) rests
              (rw append_assoc (trace-is m)) ∙ after_both past now _)

    walk : (left : ℕ) → FromAny left
    unfolding steps considerations_in
    walk zero past rest count s h (at_commit o) q = rw (none_here h o q) (ends-here h o q)
    walk zero past rest count s h (at_limit o) q = rw (one-here h o q).1 (ends-here h o q)
    walk zero past rest count s h (further {k = k} {given = g} {es = es}) q =
        absurd (omega (arith, l.within, h.allowed, count-here h (considered k g ∷ es) q))
    walk (suc left) past rest count s h (at_commit o) q = rw (none_here h o q) (ends-here h o q)
    walk (suc left) past rest count s h (at_limit o) q = absurd (omega (arith, l.reached o, h.allowed, count-here h [] q))
    walk (suc left) past rest count s h (further {k = k} {given = g} {es = es}) q = considers-one h k g es q (walk left)

    pub only-lawful : e ≡ ending_of a
    unfolding ending_of process onward
    only-lawful = go (run_log a.operations a.start) refl l.begins
      where
        go : (r : Result) → run_log a.operations a.start ≡ r → Makes e r e.trace
            → e ≡ onward r
            (λ new. after_events (map made new)
            (steps a.rule_book.rules a.order a.rule_book.limit 0 (after_log a.rule_book.rules a.order a.start new)))
            (λ o new. ended o 0 (make_all new a.start) (map made new))
        go (went new) c (rest, m, rests) =
            walk a.rule_book.limit (map made new) rest 0 (after_log a.rule_book.rules a.order a.start new) (state-log a c)
            rests m
        go (ends o new) c (m, p) = told p m (sym (considerations-made new)) (image-made new)
