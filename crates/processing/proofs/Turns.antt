-- A turn of the loop, for every state that the room represents: nothing is triggered and the run commits; or the first triggered rule is
-- considered, and the run ends there or goes on; or a rule is triggered and no consideration is left. What a consideration or the log made
-- fits, as the rules and operations that were read are good, so that the state after it is reached.
use Rattle.std.specs.Prelude.{Option, Some, None, Ok, Err}
use mathlib.Core.Path.{◌≡◌, refl, sym, ap, ◌∙◌}
use mathlib.Core.Bool.{true, ◌&&◌}
use mathlib.Core.List.{List}
use mathlib.Core.Option.{none, some}
use Prim.Native.Nat.{ℕ, ◌+◌, ◌-◌, ◌≤◌, ◌<◌}
use native.Mathlib.Omega.{arith}
use lib.ListN.{length, get_or, length-append, length-set}
use Rattle.meaning.specs.Base.{any, Each}
use Rattle.meaning.specs.Covers as Covers
use Rattle.meaning.specs.Covers.{Image, Rule}
use Rattle.meaning.specs.RowOperations.{RowOperation}
use Rattle.meaning.specs.Processing.{State, Event, Ending, ended, after_events, waits, triggered, consider, moved, first_triggered}
use Rattle.meaning.specs.Processing.TransitionTables.{wakes}
use Rattle.meaning.specs.Processing.Actions.{Result, went, ends}
use Rattle.meaning.proofs.Lists.{and-true, first-is, there-below}
use Rattle.meaning.proofs.StepsFit.{GoodRule, Built, built-moved}
use Rattle.meaning.proofs.RunsFit.{rule-gives}
use Rattle.words.proofs.Laws.{readable-each}
use Rattle.room.specs.Represents.{Represents, made_all, seen}
use Rattle.room.proofs.Marks.{seen-moved, reached-seen}
use Rattle.changes.specs.declared.Stop.{Stop}
use Rattle.changes.specs.Steps.{Step, Follows, goes_on, rolls_back, fails}
use Rattle.plan.specs.declared.Plan.{Plan}
use Rattle.plan.specs.Numbers.{numbers_in}
use Rattle.plan.specs.Plans.{rules_in, Lists}
use Rattle.plan.proofs.Active.{active-low}
use Rattle.trigger.specs.Triggers.{next_meant, order_in}
use Rattle.consider.specs.Considers.{Considers}
use Rattle.processing.specs.declared.Outcome.TheVariants as outcome
use Rattle.processing.specs.declared.Ended.{Ended}
use Rattle.processing.specs.Endings.{outcome_meant, stopped, EndsAs}
use Rattle.processing.specs.Rest.{Reaches, Midway, Looks, EndsFrom}
use Rattle.processing.proofs.OneStep.{steps-quiet, steps-limit, steps-went, steps-ends, first_below}

-- ---- What a step led to

-- operations were made, and the room represents the state with them
pub record Led (ys tables : List ℕ) (s : State) (result : Result) (to : List RowOperation → Result) : Type 0 where
  pub new : List RowOperation
  pub is : result ≡ to new
  pub represents : Represents ys tables (made_all new s)

module _ {ys tables : List ℕ} {s : State} {result : Result} where
  pub led_on : {r : Step} → Follows ys tables s result r → r ≡ Ok tt → Led ys tables s result went
  led_on follows e = go (rw e at follows)
    where
      go : {result : Result} → Follows ys tables s result (Ok tt) → Led ys tables s result went
      go (goes_on {os = os} p) = record { new = os; is = refl; represents = p }

  pub led-ends : {r : Step} {stop : Stop} → Follows ys tables s result r → r ≡ Err stop
      → Led ys tables s result (ends (outcome_meant (stopped stop)))
  led-ends {stop = stop} follows e = go (rw e at follows)
    where
      go : {result : Result} {stop : Stop} → Follows ys tables s result (Err stop)
          → Led ys tables s result (ends (outcome_meant (stopped stop)))
      go (rolls_back {os = os} p) = record { new = os; is = refl; represents = p }
      go (fails {os = os} p) = record { new = os; is = refl; represents = p }

-- ---- Endings

-- what happened before stands in the trace alone
pub after-ends : {ys : List ℕ} {e : Ending} {r : Ended} (es : List Event) → EndsAs ys e r → EndsAs ys (after_events es e) r
unfolding after_events ended
after-ends es a = record { laid = a.laid; outcome = a.outcome; count = a.count; next = a.next; rows = a.rows }

-- a run that ends in a state that the room represents
pub ends_there : {ys tables : List ℕ} {s : State} {o : Covers.Outcome} {n : ℕ} {r : Ended} (es : List Event)
    → Represents ys tables s → outcome_meant r.outcome ≡ o → r.count ≡ n → EndsAs ys (ended o n s.image es) r
unfolding ended
ends_there es p o n = record { laid = p.laid; outcome = o; count = n; next = p.next; rows = p.rows }

-- ---- One turn

abbrev rules_of : List ℕ → Plan → List Rule
rules_of book plan = rules_in book plan.count

module _ {xs ys book : List ℕ} {plan : Plan} {found : Option ℕ} (t : Looks xs ys book plan found) where
  -- nothing is triggered
  pub quiet-ends : (left count : ℕ) {r : Ended} → found ≡ None → (r.outcome ≡ outcome.Commit) × (r.count ≡ count)
      → EndsFrom xs ys book plan left count r
  unfolding next_meant
  quiet-ends left count q told =
      record {
        ends = λ start s a.
            let there = (t.rests start s a).settled in
            let none_first : first_triggered (rules_of book plan) (order_in plan) s ≡ none = sym (t.first.is s there) ∙ ap next_meant q in
            rw (steps-quiet (rules_of book plan) (order_in plan) s left count none_first)
            (ends_there _ there.represents (ap outcome_meant told.0) told.1);
      }

  module _ {k : ℕ} (q : found ≡ Some k) where
    first : {start : Image} {s : State} → Reaches xs book plan start s → first_triggered (rules_of book plan) (order_in plan) s ≡ some k
    unfolding next_meant
    first {start} {s} a = sym (t.first.is s (t.rests start s a).settled) ∙ ap next_meant q

    -- a rule is triggered, and no consideration is left
    pub limit-ends : (left count : ℕ) {r : Ended} → left ≤ 0 → (r.outcome ≡ outcome.StepLimit) × (r.count ≡ count)
        → EndsFrom xs ys book plan left count r
    limit-ends left count h told =
        record {
          ends = λ start s a.
              rw (steps-limit (rules_of book plan) (order_in plan) s k (first a) left count h)
              (ends_there _ (t.rests start s a).settled.represents (ap outcome_meant told.0) told.1);
        }

    -- the rule that is triggered is a rule of the book
    pub rule-below : Midway xs book plan → k < plan.count
    unfolding first_triggered order_in
    rule-below m =
        first_below (triggered (rules_of book plan) m.state) (numbers_in plan.order) plan.count plan.count k plan.numbers.rule
        (first m.reaches)

    -- it is triggered, so it is active
    pub rule-active : Lists book plan.count plan → Midway xs book plan → get_or plan.tables k 0 ≤ 3
    unfolding first_triggered triggered
    rule-active lists m =
        let here = lists.placed k (rule-below m) in
        let on = (first-is (triggered (rules_of book plan) m.state) (order_in plan) k (first m.reaches)).passes in
        let both : here.rule.active && any (λ p. wakes here.rule p.1) (waits m.state k) ≡ true = rw here.listed at on in
        active-low here (and-true here.rule.active (any (λ p. wakes here.rule p.1) (waits m.state k)) both).0

    module _ (lists : Lists book plan.count plan) (below : k < plan.count) {zs : List ℕ} {step : Step}
        (c : Considers ys zs book plan k step) where
      -- what its consideration leaves, from every state
      followed : {start : Image} {s : State} → Reaches xs book plan start s
          → Follows zs plan.tables (seen s k) (consider (rules_of book plan) s k) step
      followed {start} {s} a =
          let here = there-below (rules_of book plan) k (lists.placed k below).rule (lists.placed k below).listed in
          c.follows start s a.reached (t.rests start s a).settled (omega (arith, a.marks))

      -- the run ends there
      ends-run : (left count : ℕ) {r : Ended} {o : Covers.Outcome} → 0 < left → outcome_meant r.outcome ≡ o → r.count ≡ count + 1
          → ((start : Image) (s : State) → Reaches xs book plan start s
          → Led zs plan.tables (seen s k) (consider (rules_of book plan) s k) (ends o))
          → EndsFrom xs zs book plan left count r
      unfolding made_all seen
      ends-run left count {o = o} h out n led =
          record {
            ends = λ start s a.
                let way = led start s a in
                rw (steps-ends (rules_of book plan) (order_in plan) s k (first a) left count o way.new h way.is)
                (ends_there _ way.represents out n);
          }

      pub turn-ends : (left count : ℕ) {r : Ended} {stop : Stop} → 0 < left → step ≡ Err stop
          → (r.outcome ≡ stopped stop) × (r.count ≡ count + 1) → EndsFrom xs zs book plan left count r
      turn-ends left count h e told =
          ends-run left count h (ap outcome_meant told.0) told.1 (λ start s a. led-ends (followed a) e)

      module _ (e : step ≡ Ok tt) where
        led : {start : Image} {s : State} → Reaches xs book plan start s
            → Led zs plan.tables (seen s k) (consider (rules_of book plan) s k) went
        led a = led_on (followed a) e

        -- it goes on from a state that is reached, too
        reaches-on : {start : Image} {s : State} (a : Reaches xs book plan start s)
            → Reaches zs book plan start (moved (rules_of book plan) s k (led a).new)
        unfolding moved seen
        reaches-on {start} {s} a =
            let good : Each GoodRule (rules_of book plan) = readable-each (rule-gives plan.count) plan.count book 8 in
            let before : Built (rules_of book plan) (order_in plan) start good a.reached.sound s =
            record { done_fits = a.reached.made; image_is = a.reached.image } in
            let after = built-moved (rules_of book plan) (order_in plan) start good a.reached.sound before k (led a).is in
            record {
              reached =
                  record {
                    sound = a.reached.sound;
                    made = after.done_fits;
                    image = after.image_is;
                    marked = λ j. simp length-append (omega (arith, (reached-seen a.reached k).marked j));
                  };
              represents = rw (← seen-moved (rules_of book plan) s k (led a).new) (led a).represents;
              marks = length-set s.marks k (length s.done) ∙ a.marks;
            }

        pub turn-midway : Midway xs book plan → Midway zs book plan
        turn-midway m = record { start = m.start; state = _; reaches = reaches-on m.reaches }

        -- what the rest from there ends as, the rest from here ends as
        pub turn_on : (left count : ℕ) {ws : List ℕ} {r : Ended} → 0 < left → EndsFrom zs ws book plan (left - 1) (count + 1) r
            → EndsFrom xs ws book plan left count r
        turn_on left count h rest =
            record {
              ends = λ start s a.
                  rw (steps-went (rules_of book plan) (order_in plan) s k (first a) left count (led a).new h (led a).is)
                  (after-ends _ (rest.ends start _ (reaches-on a)));
            }
