-- The transition tables of what a rule looks out for are the rule's own, as they ask for its table and its columns alone.
use mathlib.Core.Path.{◌≡◌, refl}
use mathlib.Core.List.{List}
use Prim.Native.Nat.{ℕ}
use Rattle.meaning.specs.Base.{gather}
use Rattle.meaning.specs.Covers.{Row, Rule}
use Rattle.meaning.specs.RowOperations.{Effect, NetEffect, nothing, inserted, deleted, updated}
use Rattle.meaning.specs.Processing.TransitionTables.{meets, own_table, own_row, live_row, inserted_row, deleted_row, new_row, old_row, transition}
use Rattle.room.specs.declared.Watch.{Watch}
use Rattle.room.specs.Room.{watch_rule}

module _ (w : Watch) (rule : Rule) (t : w.table ≡ rule.table) (c : w.columns ≡ rule.columns) where
  own-watch : own_row (watch_rule w) ≡ own_row rule
  unfolding own_row own_table watch_rule
  own-watch = rw t

  meets-watch : meets (watch_rule w) ≡ meets rule
  unfolding meets watch_rule
  meets-watch = rw c

  deleted-watch : (e : Effect) → deleted_row (watch_rule w) e ≡ deleted_row rule e
  unfolding deleted_row
  deleted-watch nothing = refl
  deleted-watch (inserted u) = refl
  deleted-watch (deleted r) = rw own-watch
  deleted-watch (updated m r) = refl

  old-watch : (e : Effect) → old_row (watch_rule w) e ≡ old_row rule e
  unfolding old_row
  old-watch nothing = refl
  old-watch (inserted u) = refl
  old-watch (deleted r) = refl
  old-watch (updated m r) = rw (meets-watch, own-watch)

  module _ (rows : List Row) where
    inserted-watch : (h : ℕ) (e : Effect) → inserted_row (watch_rule w) rows h e ≡ inserted_row rule rows h e
    unfolding inserted_row live_row
    inserted-watch h nothing = refl
    inserted-watch h (inserted u) = rw own-watch
    inserted-watch h (deleted r) = refl
    inserted-watch h (updated m r) = refl

    new-watch : (h : ℕ) (e : Effect) → new_row (watch_rule w) rows h e ≡ new_row rule rows h e
    unfolding new_row live_row
    new-watch h nothing = refl
    new-watch h (inserted u) = refl
    new-watch h (deleted r) = refl
    new-watch h (updated m r) = rw (meets-watch, own-watch)

    pub transition-watch : (given : NetEffect) → transition (watch_rule w) rows given ≡ transition rule rows given
    unfolding transition
    transition-watch given =
        λ i.
        record {
          inserted_rows = gather (λ p. inserted-watch p.0 p.1 i) given;
          deleted_rows = gather (λ p. deleted-watch p.1 i) given;
          new_updated = gather (λ p. new-watch p.0 p.1 i) given;
          old_updated = gather (λ p. old-watch p.1 i) given;
        }
