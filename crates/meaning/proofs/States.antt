-- The states of an accepted run. The trace so far leads to the state, and all that counts in the state can be read off that trace: its
-- image, what waits for each rule, and which rule is the first that is triggered.
use mathlib.Core.Path.{◌≡◌, refl, ap, ◌∙◌}
use mathlib.Core.Bool.{Bool, true, false}
use mathlib.Core.List.{List, ◌++◌, map}
use mathlib.Core.Option.{none, some}
use Prim.Native.Nat.{ℕ, suc, ◌+◌}
use native.Mathlib.Omega.{arith}
use Rattle.meaning.specs.Base.{first_with}
use Rattle.meaning.specs.Covers.{Rule}
use Rattle.meaning.specs.RowOperations.{RowOperation, net_effect, make_all}
use Rattle.meaning.specs.Processing.{State, Event, made, waits, run_log, triggered, consider, moved, consideration, first_triggered}
use Rattle.meaning.specs.Processing.{after_log}
use Rattle.meaning.specs.Processing.Actions.{went}
use Rattle.meaning.specs.Trace.{considerations_in}
use Rattle.meaning.specs.Runs.{Accepted, waits_for, numbered, is_triggered, image_after}
use Rattle.meaning.proofs.Lists.{true-is-false, there-below, some-passes, first-none, has-none}
use Rattle.meaning.proofs.Orders.{in_order}
use Rattle.meaning.proofs.Traces.{considerations-append, considerations-made, one-consideration}
use Rattle.meaning.proofs.StepsFit.{Built, built-moved, built-log}
use Rattle.meaning.proofs.RunsFit.{run_sound, run-rules, run-order, run-log}
use Rattle.meaning.proofs.Marks.{Follows, follows-log, follows-considered}

module _ {image book log : List ℕ} (a : Accepted image book log) where
  -- after these events, with so many considerations left and so many made, the state is s
  pub record StateAfter (past : List Event) (left count : ℕ) (s : State) : Type 0 where
    pub built : Built a.rule_book.rules a.order a.start (run-rules a) (run_sound a) s
    pub follows : Follows a.rule_book.rules past s
    pub counts : count ≡ considerations_in past
    pub allowed : count + left ≡ a.rule_book.limit

  pub state-log : {new : List RowOperation} → run_log a.operations a.start ≡ went new
      → StateAfter (map made new) a.rule_book.limit 0 (after_log a.rule_book.rules a.order a.start new)
  state-log {new} l =
      record {
        built = built-log a.rule_book.rules a.order a.start (run-rules a) (run_sound a) (run-log a) l;
        follows = follows-log a.rule_book.rules a.order a.start new;
        counts = rw (considerations-made new);
        allowed = omega arith;
      }

  -- a consideration is counted
  pub one_more : {past : List Event} {left count : ℕ} {s : State} → StateAfter past left count s → (k : ℕ) (new : List RowOperation)
      → suc count ≡ considerations_in (past ++ consideration a.rule_book.rules s k new)
  one_more {s = s} h k new = rw (considerations-append, one-consideration a.rule_book.rules s k new) (omega (arith, h.counts))

  pub state-moved : {past : List Event} {left count k : ℕ} {s : State} {new : List RowOperation} → StateAfter past (suc left) count s
      → first_triggered a.rule_book.rules a.order s ≡ some k → consider a.rule_book.rules s k ≡ went new
      → StateAfter (past ++ consideration a.rule_book.rules s k new) left (suc count) (moved a.rule_book.rules s k new)
  state-moved {k = k} {new = new} h t c =
      record {
        built = built-moved a.rule_book.rules a.order a.start (run-rules a) (run_sound a) h.built k c;
        follows = follows-considered a.rule_book.rules a.order new h.follows t;
        counts = one_more h k new;
        allowed = omega (arith, h.allowed);
      }

  -- ---- Read off the trace

  module _ {past : List Event} {left count : ℕ} {s : State} (h : StateAfter past left count s) where
    pub image-is : s.image ≡ image_after a past
    unfolding image_after
    image-is = h.built.image_is ∙ ap (λ (os : List RowOperation). make_all os a.start) h.follows.all_done

    pub waits-is : (k : ℕ) → waits s k ≡ waits_for k past
    unfolding waits waits_for
    waits-is k = ap net_effect (h.follows.waiting k)

    triggered-is : (k : ℕ) → triggered a.rule_book.rules s k ≡ is_triggered a past k
    unfolding triggered is_triggered
    triggered-is k = rw (waits-is k)

    pub search_is : first_triggered a.rule_book.rules a.order s ≡ first_with (is_triggered a past) a.order
    unfolding first_triggered
    search_is = λ i. first_with (λ k. triggered-is k i) a.order

  -- ---- The rules that are triggered

  module _ (past : List Event) (k : ℕ) where
    triggered-rule : is_triggered a past k ≡ true → (r : Rule) × (numbered a k ≡ some r)
    unfolding is_triggered
    triggered-rule t = some-passes _ (numbered a k) t

    -- every rule of the book stands in the order: where the search finds none, none is triggered
    pub none-triggered : first_with (is_triggered a past) a.order ≡ none → is_triggered a past k ≡ false
    none-triggered f = go (is_triggered a past k) refl
      where
        go : (b : Bool) → is_triggered a past k ≡ b → b ≡ false
        go false t = refl
        go true t =
            let r = triggered-rule t in
            let stands = in_order a.rule_book.rules a.order (run-order a) k (there-below a.rule_book.rules k r.0 r.1) in
            true-is-false t (has-none (is_triggered a past) k a.order stands (first-none (is_triggered a past) a.order f))
