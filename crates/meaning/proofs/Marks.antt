-- In every state of a run, the operations after a rule's mark are those after its last consideration in the trace so far: a consideration
-- moves the rule's own mark to the end, and operations join what waits for every rule. So what waits for a rule can be read off the trace.
use mathlib.Core.Path.{◌≡◌, refl, sym, ap, ◌∙◌}
use mathlib.Core.Bool.{Bool, true, false}
use mathlib.Core.List.{List, [], ◌∷◌, ◌++◌, map}
use mathlib.Core.Option.{some}
use Prim.Native.Nat.{ℕ, zero, suc, ◌≤◌, ◌<◌}
use native.Mathlib.Omega.{arith}
use lib.Dec.{eqb}
use lib.ListN.{length, get_or, get_elem?, drop, set, replicate, length-append, length-set, length-replicate}
use lib.Seq.{append_snoc, drop-append-le, drop-append_seam, get_or-set_same, get_or-set_other}
use borrow.Author.Tests.{eqb-true, eqb-false}
use Rattle.meaning.specs.Covers.{Image, Rule}
use Rattle.meaning.specs.RowOperations.{RowOperation}
use Rattle.meaning.specs.Processing.{State, Event, made, considered, since, waits, triggered, moved, consideration, first_triggered}
use Rattle.meaning.specs.Processing.{after_log}
use Rattle.meaning.specs.Trace.{operations_in, since_on, since_last}
use Rattle.meaning.proofs.Lists.{there-below, some-passes, first-is}
use Rattle.meaning.proofs.Traces.{operations-append, operations-made, last_made, last-considered, last-other}

-- no rule has a mark above the start
zeros : (n k : ℕ) → ◌≡◌ {A = ℕ} (get_or (replicate n 0) k 0) 0
zeros zero k = refl
zeros (suc n) zero = refl
zeros (suc n) (suc k) = zeros n k

-- ---- The states of a run

module _ (rules : List Rule) where
  -- in the state that a trace leads to, its operations are done, and those after a rule's mark are those since its last consideration
  pub record Follows (past : List Event) (s : State) : Type 0 where
    pub all_done : s.done ≡ operations_in past
    pub marks_length : length s.marks ≡ length rules
    pub marked : (j : ℕ) → get_or s.marks j 0 ≤ length s.done
    pub waiting : (j : ℕ) → since s j ≡ since_last j past

  -- A consideration empties what waits for the rule, and its operations join what waits for every rule.
  pub follows-moved : {past : List Event} {s : State} {k : ℕ} (new : List RowOperation) → Follows past s → k < length rules
      → Follows (past ++ consideration rules s k new) (moved rules s k new)
  unfolding consideration moved since operations_in
  follows-moved {past} {s} {k} new f low =
      record {
        all_done = rw (operations-append past (considered k (waits s k) ∷ map made new), operations-made new, f.all_done);
        marks_length = length-set s.marks k (length s.done) ∙ f.marks_length;
        marked = λ j. mark j (eqb k j) refl;
        waiting = λ j. wait j (eqb k j) refl;
      }
    where
      marks : List ℕ
      marks = set s.marks k (length s.done)

      own : (j : ℕ) → eqb k j ≡ true → get_or marks j 0 ≡ length s.done
      own j e =
          ap (λ (i : ℕ). get_or marks i 0) (sym (eqb-true k j e)) ∙ get_or-set_same s.marks k (length s.done) 0 (rw f.marks_length low)

      other : (j : ℕ) → eqb k j ≡ false → get_or marks j 0 ≡ get_or s.marks j 0
      other j e = get_or-set_other s.marks k j (length s.done) 0 (λ q. eqb-false k j e (sym q))

      mark : (j : ℕ) (b : Bool) → eqb k j ≡ b → get_or marks j 0 ≤ length (s.done ++ new)
      mark j true e = rw (own j e, length-append) (omega arith)
      mark j false e = let m = f.marked j in rw (other j e, length-append) (omega arith)

      now : List Event
      now = past ++ (considered k (waits s k) ∷ [])

      wait : (j : ℕ) (b : Bool) → eqb k j ≡ b
          → drop (get_or marks j 0) (s.done ++ new) ≡ since_last j (past ++ (considered k (waits s k) ∷ map made new))
      wait j true e =
          rw (own j e, drop-append_seam s.done new, ← append_snoc past (considered k (waits s k)) (map made new))
          (sym (last_made j now new ∙ ap (λ (os : List RowOperation). os ++ new) (last-considered j past k (waits s k) e)))
      wait j false e =
          rw (other j e, drop-append-le (get_or s.marks j 0) s.done new (f.marked j))
          (rw (← append_snoc past (considered k (waits s k)) (map made new))
          (ap (λ (os : List RowOperation). os ++ new) (f.waiting j ∙ sym (last-other j past k (waits s k) e)) ∙ sym (last_made j now new)))

  -- ---- Along a run

  module _ (order : List ℕ) where
    -- the first triggered rule is in the book
    pub first-rule : (s : State) (k : ℕ) → first_triggered rules order s ≡ some k → (r : Rule) × (get_elem? rules k ≡ some r)
    unfolding first_triggered triggered
    first-rule s k t = some-passes _ (get_elem? rules k) (first-is (triggered rules s) order k t).passes

    pub follows-log : (start : Image) (new : List RowOperation) → Follows (map made new) (after_log rules order start new)
    unfolding after_log since since_last since_on
    follows-log start new =
        record {
          all_done = sym (operations-made new);
          marks_length = length-replicate (length rules) 0;
          marked = λ j. rw (zeros (length rules) j) (omega arith);
          waiting = λ j. rw (zeros (length rules) j) (sym (last_made j [] new));
        }

    pub follows-considered : {past : List Event} {s : State} {k : ℕ} (new : List RowOperation) → Follows past s
        → first_triggered rules order s ≡ some k → Follows (past ++ consideration rules s k new) (moved rules s k new)
    follows-considered {s = s} {k = k} new f t =
        let r = first-rule s k t in follows-moved new f (there-below rules k r.0 r.1)
