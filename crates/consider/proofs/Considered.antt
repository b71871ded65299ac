-- A consideration of a rule of a plan: the rule that is read is the rule that is listed; its transition tables are those of what waits for
-- it; and so its condition is asked, and its actions run, on what the specification says.
use Rattle.std.specs.Prelude.{if◌then◌else◌, Option, Some, Ok}
use mathlib.Core.Path.{◌≡◌, sym, ap, ◌∙◌}
use mathlib.Core.Bool.{Bool, true, false}
use mathlib.Core.List.{List, []}
use mathlib.Core.Option.{some}
use Prim.Native.Nat.{ℕ, ◌≤◌, ◌<◌}
use native.Mathlib.Omega.{arith}
use lib.ListN.{length, get_or, get_elem?}
use Rattle.meaning.specs.Covers.{Image, Rule}
use Rattle.meaning.specs.ByteLayouts as ByteLayouts
use Rattle.meaning.specs.Processing.{State, waits, condition_holds, run_actions, consider_with, consider_rule, consider}
use Rattle.meaning.specs.Processing.TransitionTables.{transition}
use Rattle.meaning.specs.Processing.Actions.{went}
use Rattle.words.specs.Words.{Bytes}
use Rattle.book.specs.declared.Rule.{Rule as RuleStood}
use Rattle.book.specs.Books.{condition_meant, actions_meant, rule_of, rule_meant, rule_or}
use Rattle.plan.specs.declared.Plan.{Plan}
use Rattle.plan.specs.Plans.{rules_in, unlisted, Lists}
use Rattle.plan.proofs.Standing.{read-listed}
use Rattle.plan.proofs.Active.{low-own}
use Rattle.room.specs.declared.Watch.{Watch}
use Rattle.room.specs.Room.{END, Kept, watch_rule, live_rows, transition_in, waits_in}
use Rattle.room.specs.Drawn.{drawn_for, Drew}
use Rattle.room.specs.Represents.{Settled, Reached, seen}
use Rattle.room.proofs.Kept.{kept_trans}
use Rattle.room.proofs.Draws.{drawn-whole}
use Rattle.room.proofs.Marks.{reached-seen, drew}
use Rattle.room.proofs.Steps.{made_all-none}
use Rattle.transition.proofs.Afterwards.{transition-watch}
use Rattle.changes.specs.Steps.{Step, goes_on, Acts}
use Rattle.consider.specs.Considers.{Considers}

-- ---- Its transition tables are drawn

-- rule k of a plan is active, stands decoded, and its transition tables were drawn
pub record Drawn (xs ys s : List ℕ) (plan : Plan) (k : ℕ) (rule : RuleStood) : Type 0 where
  pub low : k < 16
  pub on : get_or plan.tables k 0 ≤ 3
  pub own : get_or plan.tables k 0 ≡ (rule_meant s rule).table
  pub listed : get_elem? (rules_in s plan.count) k ≡ some (rule_meant s rule)
  pub watch : Watch
  pub table : watch.table ≡ rule.head.table
  pub columns : watch.columns ≡ rule.head.columns
  pub drawing : Drew xs ys k (watch_rule watch)
  pub bytes : Bytes ys

pub drawn : {xs ys s : List ℕ} {plan : Plan} {k : ℕ} {read : Option (RuleStood × ℕ)} {rule : RuleStood} {after : ℕ} {w : Watch}
    → k < plan.count → Lists s plan.count plan → get_or plan.tables k 0 ≤ 3
    → rule_or s read ≡ ByteLayouts.rule plan.count s (get_or plan.rules k unlisted).start → read ≡ Some (rule, after)
    → (w.table ≡ rule.head.table) × (w.triggers ≡ rule.head.triggers) × (w.columns ≡ rule.head.columns)
    → Drew xs ys k (watch_rule w) → Bytes ys → Drawn xs ys s plan k rule
drawn {plan = plan} {k = k} {w = w} below lists on e is of d bytes =
    let here = lists.placed k below in
    record {
      low = omega (arith, below, plan.few);
      on = on;
      own = low-own here on ∙ ap (λ (r : Rule). r.table) (sym (read-listed here e is));
      listed = here.listed ∙ ap some (sym (read-listed here e is));
      watch = w;
      table = of.0;
      columns = of.2;
      drawing = d;
      bytes = bytes;
    }

module _ {xs ys s : List ℕ} {plan : Plan} {k : ℕ} {rule : RuleStood} (d : Drawn xs ys s plan k rule) where
  tables-drawn : {start : Image} {state : State} → Reached start state → Settled xs plan.tables state
      → transition_in ys ≡ transition (rule_meant s rule) state.image.rows (waits state k)
  unfolding drawn_for rule_meant rule_of
  tables-drawn reached p =
      d.drawing.tables
      ∙ transition-watch d.watch (rule_meant s rule) d.table d.columns (live_rows xs) (waits_in xs k)
      ∙ drawn-whole p k d.low d.on (rule_meant s rule) d.own reached

  considers-drawn : {start : Image} {state : State} → Reached start state → Settled xs plan.tables state
      → consider (rules_in s plan.count) state k ≡ consider_with (transition_in ys) (rule_meant s rule) state.image
  unfolding consider consider_rule
  considers-drawn reached p = rw (d.listed, ← tables-drawn reached p)

  -- the room then represents the state that has seen all operations so far, and all is settled
  after : {state : State} → Settled xs plan.tables state → k < length state.marks → Settled ys plan.tables (seen state k)
  after p mark = drew p d.drawing d.bytes mark

  module _ {b : Bool} (is : b ≡ condition_holds (transition_in ys) (live_rows ys) (condition_meant s rule.head.triggers rule.condition))
    where
      considers-when : {start : Image} {state : State} → Reached start state → Settled xs plan.tables state
          → k < length state.marks
          → consider (rules_in s plan.count) state k
          ≡ if b then run_actions (transition_in ys) (actions_meant s rule.head.triggers rule.actions) state.image else went []
      unfolding consider_with rule_meant rule_of seen
      considers-when reached p mark = rw (considers-drawn reached p, ← (after p mark).represents.rows, ← is)

      -- the condition holds, and the actions run
      pub considers-acts : b ≡ true → {zs : List ℕ} {r : Step}
          → Acts ys zs (run_actions (transition_in ys) (actions_meant s rule.head.triggers rule.actions)) r
          → Considers xs zs s plan k r
      unfolding seen
      considers-acts held {zs} acts =
          let kept : Kept END (length xs) ys zs = rw d.drawing.beyond.len at acts.beyond in
          record {
            laid = acts.laid;
            beyond = kept_trans d.drawing.beyond kept;
            follows = λ start state reached p mark.
                rw (considers-when reached p mark, held)
                (acts.follows plan.tables start (seen state k) (reached-seen reached k) (after p mark).represents);
          }

      -- it does not, and nothing more is done
      pub considers-none : b ≡ false → Considers xs ys s plan k (Ok tt)
      considers-none off =
          record {
            laid = d.drawing.laid;
            beyond = d.drawing.beyond;
            follows = λ start state reached p mark.
                rw (considers-when reached p mark, off) (goes_on {os = []} (rw (made_all-none (seen state k)) (after p mark).represents));
          }
