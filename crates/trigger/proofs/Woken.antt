-- Whether a rule of a plan is triggered: an inactive one is not; what wakes an active one asks only for its table, its triggers and its
-- columns, and the plan has all three.
use mathlib.Core.Path.{◌≡◌, refl, sym, ap, ◌∙◌}
use mathlib.Core.Bool.{Bool, false, ◌&&◌}
use mathlib.Core.List.{List}
use Prim.Native.Nat.{ℕ, ◌≤◌, ◌<◌}
use lib.ListN.{get_or}
use Rattle.meaning.specs.Base.{any}
use Rattle.meaning.specs.Covers.{Rule}
use Rattle.meaning.specs.RowOperations.{Effect, NetEffect, nothing, inserted, deleted, updated}
use Rattle.meaning.specs.Processing.{triggered, waits}
use Rattle.meaning.specs.Processing.TransitionTables.{wakes, own_table, meets}
use Rattle.plan.specs.declared.Plan.{Plan}
use Rattle.plan.specs.Plans.{unlisted, Placed, Watched}
use Rattle.plan.proofs.Active.{low-active, low-own, high-idle}
use Rattle.room.specs.declared.Watch.{Watch}
use Rattle.room.specs.Room.{watch_rule, waits_in}
use Rattle.room.proofs.Draws.{woken-whole}
use Rattle.trigger.specs.Triggers.{Triggers}

-- ---- What wakes a rule asks only for its table, its triggers and its columns

-- a rule is looked out for
pub record WatchOf (r : Rule) (w : Watch) : Type 0 where
  pub table : w.table ≡ r.table
  pub triggers : w.triggers ≡ r.triggers
  pub columns : w.columns ≡ r.columns

wakes-same : (r : Rule) (w : Watch) → WatchOf r w → (e : Effect) → wakes (watch_rule w) e ≡ wakes r e
unfolding wakes own_table meets watch_rule
wakes-same r w a nothing = refl
wakes-same r w a (inserted t) = rw (a.table, a.triggers)
wakes-same r w a (deleted row) = rw (a.table, a.triggers)
wakes-same r w a (updated m row) = rw (a.table, a.triggers, a.columns)

any_same : (r : Rule) (w : Watch) → WatchOf r w → (es : NetEffect)
    → any (λ p. wakes (watch_rule w) p.1) es ≡ any (λ p. wakes r p.1) es
any_same r w a es = λ i. any (λ p. wakes-same r w a p.1 i) es

-- ---- Whether rule k is triggered

module _ (xs : List ℕ) {s : List ℕ} {plan : Plan} (k : ℕ) (here : Placed s plan.count k (get_or plan.rules k unlisted).start
    (get_or plan.tables k 0)) where
  pub not-active : 3 < get_or plan.tables k 0 → Triggers xs s plan k false
  unfolding triggered
  not-active off = record { is = λ state rep. rw (here.listed, high-idle here off) }

  pub active-woken : Watched here.rule (get_or plan.rules k unlisted).triggers (get_or plan.rules k unlisted).columns → k < 16 → get_or plan.tables k 0 ≤ 3
      → (w : Watch) → w.table ≡ get_or plan.tables k 0 → w.triggers ≡ (get_or plan.rules k unlisted).triggers
      → w.columns ≡ (get_or plan.rules k unlisted).columns → {r : Bool} → r ≡ any (λ p. wakes (watch_rule w) p.1) (waits_in xs k)
      → Triggers xs s plan k r
  unfolding triggered
  active-woken watched low on w table triggers columns asked =
      let of : WatchOf here.rule w = record {
        table = table ∙ low-own here on;
        triggers = triggers ∙ watched.triggers;
        columns = columns ∙ watched.columns;
      } in
      record {
        is = λ state rep.
            rw here.listed
            (asked
            ∙ any_same here.rule w of (waits_in xs k)
            ∙ woken-whole rep k low on here.rule (low-own here on)
            ∙ ap (λ (t : Bool). t && any (λ p. wakes here.rule p.1) (waits state k)) (sym (low-active here on)));
      }
