-- Laws of traces: how the operations, the stretches of a rule and what it was given go over parts of a trace, each by a walk along it;
-- and the steps of a run by cases.
use Rattle.std.specs.Prelude.{if◌then◌else◌}
use mathlib.Core.Path.{◌≡◌, refl, sym, ap, ◌∙◌}
use mathlib.Core.Bool.{Bool, true, false}
use mathlib.Core.List.{List, [], ◌∷◌, ◌++◌, map, append_assoc, append-nil}
use mathlib.Core.Option.{Option, none, some}
use Prim.Native.Nat.{ℕ, zero, suc, ◌+◌}
use native.Mathlib.Omega.{arith}
use lib.Dec.{eqb}
use lib.Seq.{append_snoc}
use Rattle.meaning.specs.Base.{maybe}
use Rattle.meaning.specs.Covers.{Image, Rule, LogOperation, Outcome, commit, step_limit}
use Rattle.meaning.specs.RowOperations.{RowOperation, NetEffect, Effect, join, effect_at, make_all}
use Rattle.meaning.specs.Processing.{State, Event, made, considered, Ending, ended, after_events, run_log, consider, moved}
use Rattle.meaning.specs.Processing.{consideration, first_triggered, steps, after_log, process}
use Rattle.meaning.specs.Processing.Actions.{Result, went, ends, onward}
use Rattle.meaning.specs.Trace.{operations_in, considerations_in, since_on, since_last, given_to, joined_in}

-- ---- A choice

-- what holds of both ways holds of a choice made twice
pub if-both : {A B : Type 0} (P : A → B → Type 0) (b : Bool) {x y : A} {u v : B} → P x u → P y v
    → P (if b then x else y) (if b then u else v)
if-both P true p q = p
if-both P false p q = q

-- ---- The operations of a trace

pub operations-append : (es fs : List Event) → operations_in (es ++ fs) ≡ operations_in es ++ operations_in fs
unfolding operations_in
operations-append [] fs = refl
operations-append (made o ∷ es) fs = ap (λ (os : List RowOperation). o ∷ os) (operations-append es fs)
operations-append (considered k given ∷ es) fs = operations-append es fs

pub operations-made : (os : List RowOperation) → operations_in (map made os) ≡ os
unfolding operations_in
operations-made [] = refl
operations-made (o ∷ os) = ap (λ (more : List RowOperation). o ∷ more) (operations-made os)

-- ---- The considerations of a trace

pub considerations-append : (es fs : List Event) → considerations_in (es ++ fs) ≡ considerations_in es + considerations_in fs
unfolding considerations_in
considerations-append [] fs = omega arith
considerations-append (made o ∷ es) fs = considerations-append es fs
considerations-append (considered k given ∷ es) fs = let h = considerations-append es fs in omega arith

pub considerations-made : (os : List RowOperation) → considerations_in (map made os) ≡ 0
unfolding considerations_in
considerations-made [] = refl
considerations-made (o ∷ os) = considerations-made os

pub one-consideration : (rules : List Rule) (s : State) (k : ℕ) (new : List RowOperation)
    → considerations_in (consideration rules s k new) ≡ 1
unfolding consideration considerations_in
one-consideration rules s k new = ap suc (considerations-made new)

-- ---- The stretches of rule k

module _ (k : ℕ) where
  -- the operations that stand before those since the last consideration, after `old` and `os`
  unfoldable pub until_on : List RowOperation → List RowOperation → List Event → List RowOperation
  until_on old os [] = old
  until_on old os (made o ∷ es) = until_on old (os ++ (o ∷ [])) es
  until_on old os (considered j given ∷ es) = if eqb j k then until_on (old ++ os) [] es else until_on old os es

  -- the operations up to the last consideration of the rule, none where it has none
  unfoldable pub until_last : List Event → List RowOperation
  until_last es = until_on [] [] es

  pub since-append : (os : List RowOperation) (es fs : List Event) → since_on k os (es ++ fs) ≡ since_on k (since_on k os es) fs
  unfolding since_on
  since-append os [] fs = refl
  since-append os (made o ∷ es) fs = since-append (os ++ (o ∷ [])) es fs
  since-append os (considered j given ∷ es) fs =
      if-both (λ (x y : List RowOperation). x ≡ since_on k y fs) (eqb j k) (since-append [] es fs) (since-append os es fs)

  pub since-made : (os new : List RowOperation) → since_on k os (map made new) ≡ os ++ new
  unfolding since_on
  since-made os [] = sym (append-nil os)
  since-made os (o ∷ new) = since-made (os ++ (o ∷ [])) new ∙ append_snoc os o new

  -- operations that are made join what there was since the last consideration
  pub last_made : (es : List Event) (new : List RowOperation) → since_last k (es ++ map made new) ≡ since_last k es ++ new
  unfolding since_last
  last_made es new = since-append [] es (map made new) ∙ since-made (since_on k [] es) new

  -- a consideration of the rule begins anew
  pub last-considered : (es : List Event) (j : ℕ) (given : NetEffect) → eqb j k ≡ true → since_last k (es ++ (considered j given ∷ [])) ≡ []
  unfolding since_on since_last
  last-considered es j given e = since-append [] es (considered j given ∷ []) ∙ rw e

  -- and that of another changes nothing
  pub last-other : (es : List Event) (j : ℕ) (given : NetEffect) → eqb j k ≡ false
      → since_last k (es ++ (considered j given ∷ [])) ≡ since_last k es
  unfolding since_on since_last
  last-other es j given e = since-append [] es (considered j given ∷ []) ∙ rw e

  -- both stretches, one after the other, are all operations
  pub until-since : (old os : List RowOperation) (es : List Event) → until_on old os es ++ since_on k os es ≡ old ++ os ++ operations_in es
  unfolding since_on until_on operations_in
  until-since old os [] = sym (append-nil (old ++ os))
  until-since old os (made o ∷ es) = until-since old (os ++ (o ∷ [])) es ∙ simp append_assoc
  until-since old os (considered j given ∷ es) =
      if-both (λ (x y : List RowOperation). x ++ y ≡ old ++ os ++ operations_in es) (eqb j k)
      (until-since (old ++ os) [] es ∙ simp append-nil) (until-since old os es)

  pub until-last : (es : List Event) → until_last es ++ since_last k es ≡ operations_in es
  unfolding since_last until_last
  until-last es = until-since [] [] es

  until-append : (old os : List RowOperation) (es fs : List Event)
      → until_on old os (es ++ fs) ≡ until_on (until_on old os es) (since_on k os es) fs
  unfolding since_on until_on
  until-append old os [] fs = refl
  until-append old os (made o ∷ es) fs = until-append old (os ++ (o ∷ [])) es fs
  until-append old os (considered j given ∷ es) fs = go (eqb j k) (until-append (old ++ os) [] es fs) (until-append old os es fs)
    where
      go : (b : Bool) → until_on (old ++ os) [] (es ++ fs) ≡ until_on (until_on (old ++ os) [] es) (since_on k [] es) fs
          → until_on old os (es ++ fs) ≡ until_on (until_on old os es) (since_on k os es) fs
          → (if b then until_on (old ++ os) [] (es ++ fs) else until_on old os (es ++ fs))
          ≡ until_on (if b then until_on (old ++ os) [] es else until_on old os es) (if b then since_on k [] es else since_on k os es) fs
      go true p q = p
      go false p q = q

  pub until-made : (es : List Event) (o : RowOperation) → until_last (es ++ (made o ∷ [])) ≡ until_last es
  unfolding until_on until_last
  until-made es o = until-append [] [] es (made o ∷ [])

  pub until-considered : (es : List Event) (j : ℕ) (given : NetEffect) → eqb j k ≡ true
      → until_last (es ++ (considered j given ∷ [])) ≡ operations_in es
  unfolding until_on until_last since_last
  until-considered es j given e = until-append [] [] es (considered j given ∷ []) ∙ rw e (until-last es)

  pub until-other : (es : List Event) (j : ℕ) (given : NetEffect) → eqb j k ≡ false
      → until_last (es ++ (considered j given ∷ [])) ≡ until_last es
  unfolding until_on until_last
  until-other es j given e = until-append [] [] es (considered j given ∷ []) ∙ rw e

  -- ---- What rule k was given

  pub given-append : (es fs : List Event) → given_to k (es ++ fs) ≡ given_to k es ++ given_to k fs
  unfolding given_to
  given-append [] fs = refl
  given-append (made o ∷ es) fs = given-append es fs
  given-append (considered j given ∷ es) fs =
      if-both (λ (x y : List NetEffect). x ≡ y ++ given_to k fs) (eqb j k)
      (ap (λ (ns : List NetEffect). given ∷ ns) (given-append es fs)) (given-append es fs)

pub joined_in-append : (h : ℕ) (e : Effect) (ns ms : List NetEffect) → joined_in h e (ns ++ ms) ≡ joined_in h (joined_in h e ns) ms
unfolding joined_in
joined_in-append h e [] ms = refl
joined_in-append h e (n ∷ ns) ms = joined_in-append h (join e (effect_at h n)) ns ms

-- ---- The steps of a run, by cases

module _ (rules : List Rule) (order : List ℕ) where
  -- how the steps from a state end: `left` considerations are left, and `count` were made
  pub data Steps : ℕ → ℕ → State → Ending → Type 0 where
    commits : {left count : ℕ} {s : State} → first_triggered rules order s ≡ none → Steps left count s (ended commit count s.image [])
    meets_limit : {count k : ℕ} {s : State} → first_triggered rules order s ≡ some k
        → Steps zero count s (ended step_limit count s.image [])
    ends_run : {left count k : ℕ} {s : State} {o : Outcome} {new : List RowOperation} → first_triggered rules order s ≡ some k
        → consider rules s k ≡ ends o new
        → Steps (suc left) count s (ended o (suc count) (make_all new s.image) (consideration rules s k new))
    goes_on : {left count k : ℕ} {s : State} {new : List RowOperation} {e : Ending} → first_triggered rules order s ≡ some k
        → consider rules s k ≡ went new → Steps left (suc count) (moved rules s k new) e
        → Steps (suc left) count s (after_events (consideration rules s k new) e)

  pub steps-are : (left count : ℕ) (s : State) → Steps left count s (steps rules order left count s)
  unfolding steps onward
  steps-are zero count s = go (first_triggered rules order s) refl
    where
      go : (o : Option ℕ) → first_triggered rules order s ≡ o
          → Steps zero count s (maybe o (ended commit count s.image []) (λ k. ended step_limit count s.image []))
      go none f = commits f
      go (some k) f = meets_limit f
  steps-are (suc left) count s = go (first_triggered rules order s) refl (λ n. steps-are left (suc count) n)
    where
      turn : (k : ℕ) → first_triggered rules order s ≡ some k → (r : Result) → consider rules s k ≡ r
          → ((n : State) → Steps left (suc count) n (steps rules order left (suc count) n))
          → Steps (suc left) count s (onward r
          (λ new. after_events (consideration rules s k new) (steps rules order left (suc count) (moved rules s k new)))
          (λ o new. ended o (suc count) (make_all new s.image) (consideration rules s k new)))
      turn k f (went new) c more = goes_on f c (more (moved rules s k new))
      turn k f (ends o new) c more = ends_run f c

      go : (o : Option ℕ) → first_triggered rules order s ≡ o
          → ((n : State) → Steps left (suc count) n (steps rules order left (suc count) n))
          → Steps (suc left) count s (maybe o (ended commit count s.image []) (λ k.
          onward (consider rules s k)
          (λ new. after_events (consideration rules s k new) (steps rules order left (suc count) (moved rules s k new)))
          (λ o new. ended o (suc count) (make_all new s.image) (consideration rules s k new))))
      go none f more = commits f
      go (some k) f more = turn k f (consider rules s k) refl more

  -- how a run ends
  pub data Runs (limit : ℕ) (log : List LogOperation) (start : Image) : Ending → Type 0 where
    log_ends : {o : Outcome} {new : List RowOperation} → run_log log start ≡ ends o new
        → Runs limit log start (ended o 0 (make_all new start) (map made new))
    log_done : {new : List RowOperation} {e : Ending} → run_log log start ≡ went new → Steps limit 0 (after_log rules order start new) e
        → Runs limit log start (after_events (map made new) e)

  pub runs : (limit : ℕ) (log : List LogOperation) (start : Image) → Runs limit log start (process rules order limit log start)
  unfolding process onward
  runs limit log start = go (run_log log start) refl
    where
      go : (r : Result) → run_log log start ≡ r
          → Runs limit log start (onward r (λ new. after_events (map made new) (steps rules order limit 0 (after_log rules order start new)))
          (λ o new. ended o 0 (make_all new start) (map made new)))
      go (went new) q = log_done q (steps-are limit 0 (after_log rules order start new))
      go (ends o new) q = log_ends q
