-- What one effect shows. A push makes its table a row longer, and the tables outside what is written stay; the kind of an effect says in
-- which tables it shows a row, and from both follows what `draw_one` leaves.
use mathlib.Core.Path.{◌≡◌, refl, sym, ap, ◌∙◌}
use mathlib.Core.Bool.{Bool, true, false, not}
use mathlib.Core.List.{List, [], ◌∷◌, ◌++◌, append-nil}
use mathlib.Core.Option.{Option, none, some}
use Prim.Native.Nat.{ℕ, ◌+◌, ◌≤◌, ◌<◌}
use native.Mathlib.Omega.{arith}
use borrow.Author.Tests.{eq-eqb, ne_eqb}
use lib.Bits.{bit_and}
use lib.Dec.{eqb}
use Rattle.meaning.specs.Base.{before}
use Rattle.meaning.specs.Covers.{Row, Rule}
use Rattle.meaning.specs.RowOperations.{inserted, deleted, updated, nothing}
use Rattle.meaning.specs.Processing.TransitionTables.{meets, own_table, own_row, live_row, inserted_row, deleted_row, new_row, old_row}
use Rattle.words.specs.Words.{low32_at}
use Rattle.slots.specs.declared.Slot.{Slot}
use Rattle.slots.specs.Slots.{table_at, table_bytes, Frame, Stands, Holds}
use Rattle.slots.proofs.Frames.{frame-refl, frame-wider, frame-join, word-kept-below}
use Rattle.slots.proofs.Tables.{table-kept-below, table-kept-above, stands-kept-below, stands-kept-above}
use Rattle.room.specs.declared.Watch.{Watch}
use Rattle.room.specs.Room.{INSERTED, DELETED, NEW, OLD, CHOSEN, ROWS, watch_rule, row_meant, rows_meant, effect_meant, live_rows}
use Rattle.room.proofs.Live.{rows_pushed}
use Rattle.transition.specs.Shown.{RoomFor, Grown, Added, inserted_of, deleted_of, new_of, old_of, RoomForAll, Shown}

-- ---- One table

pub same-grown : {base : ℕ} {xs ys : List ℕ} → Stands base ROWS ys → table_at ys base ≡ table_at xs base → Grown base xs ys none
same-grown {base} {xs} {ys} s q = record { stands = s; rows = ap rows_meant q ∙ sym (append-nil (rows_meant (table_at xs base))) }

module _ {base : ℕ} {xs : List ℕ} where
  pub nothing-added : Stands base ROWS xs → Added base xs xs none
  nothing-added s = record { frame = frame-refl; grown = same-grown s refl }

  pub row-added : {ys : List ℕ} (e : Slot) → Holds base ROWS xs ys (table_at xs base ++ (e ∷ [])) → Added base xs ys (some (row_meant e))
  row-added e h =
      record {
        frame = h.frame;
        grown = record { stands = h.stands; rows = ap rows_meant h.list ∙ rows_pushed (table_at xs base) e };
      }

-- the row in a slot, where it is of the rule's own table, and where it is of another
module _ (rule : Watch) (e : Slot) where
  own-yes : e.table ≡ rule.table → own_row (watch_rule rule) (row_meant e) ≡ some (row_meant e)
  unfolding own_row own_table watch_rule row_meant
  own-yes q = rw (eq-eqb e.table rule.table q)

  own-no : (e.table ≡ rule.table → ⊥) → own_row (watch_rule rule) (row_meant e) ≡ none
  unfolding own_row own_table watch_rule row_meant
  own-no n = rw (ne_eqb e.table rule.table n)

  module _ {base : ℕ} {xs : List ℕ} where
    pub own-spare : e.table ≡ rule.table → RoomFor base xs (own_row (watch_rule rule) (row_meant e)) → low32_at xs base < ROWS
    own-spare q w = let h : low32_at xs base + 1 ≤ ROWS = rw (own-yes q) at w.spare in omega arith

    pub own-added : {ys : List ℕ} → e.table ≡ rule.table → Holds base ROWS xs ys (table_at xs base ++ (e ∷ []))
        → Added base xs ys (own_row (watch_rule rule) (row_meant e))
    own-added q h = rw (own-yes q) (row-added e h)

    pub other-added : (e.table ≡ rule.table → ⊥) → Stands base ROWS xs → Added base xs xs (own_row (watch_rule rule) (row_meant e))
    other-added n s = rw (own-no n) (nothing-added s)

-- ---- A table outside what is written

module _ {lo hi base : ℕ} {xs ys : List ℕ} (f : Frame lo hi xs ys) where
  pub grown-below : Stands base ROWS xs → base + table_bytes ROWS ≤ lo → Grown base xs ys none
  grown-below s h = same-grown (stands-kept-below f base ROWS s h) (table-kept-below f base ROWS s h)

  pub grown-above : Stands base ROWS xs → hi ≤ base → Grown base xs ys none
  grown-above s h = same-grown (stands-kept-above f base ROWS s h) (table-kept-above f base ROWS s h)

  pub room-below : {o : Option Row} → RoomFor base xs o → base + table_bytes ROWS ≤ lo → RoomFor base ys o
  unfolding table_bytes
  room-below w h =
      record { stands = stands-kept-below f base ROWS w.stands h; spare = rw (word-kept-below f base (omega arith)) w.spare }

module _ {base : ℕ} {xs ys zs : List ℕ} {o : Option Row} where
  -- first the table stays, or then
  pub then-grown : Grown base xs ys none → Grown base ys zs o → Grown base xs zs o
  then-grown g h =
      record {
        stands = h.stands;
        rows = h.rows ∙ ap (λ (l : List Row). l ++ before o []) (g.rows ∙ append-nil (rows_meant (table_at xs base)));
      }

  pub grown-then : Grown base xs ys o → Grown base ys zs none → Grown base xs zs o
  grown-then g h = record { stands = h.stands; rows = h.rows ∙ append-nil (rows_meant (table_at ys base)) ∙ g.rows }

-- ---- What an effect shows in each table, by its kind

pub meets-is : (rule : Watch) {mask m : ℕ} {t : Bool} → m ≡ mask
    → t ≡ not (eqb (bit_and m rule.columns) 0) → meets (watch_rule rule) mask ≡ t
unfolding meets watch_rule
meets-is rule q r = sym (rw q at r)

pub record Tells (rule : Rule) (rows : List Row) (e : Slot) (a b c d : Option Row) : Type 0 where
  pub inserted : inserted_of rule rows e ≡ a
  pub deleted : deleted_of rule rows e ≡ b
  pub new : new_of rule rows e ≡ c
  pub old : old_of rule rows e ≡ d

module _ (e : Slot) where
  effect-inserted : e.kind ≡ 1 → effect_meant e ≡ inserted e.table
  unfolding effect_meant
  effect-inserted q = rw q

  effect-deleted : e.kind ≡ 2 → effect_meant e ≡ deleted (row_meant e)
  unfolding effect_meant
  effect-deleted q = rw q

  effect-updated : e.kind ≡ 3 → effect_meant e ≡ updated e.mask (row_meant e)
  unfolding effect_meant
  effect-updated q = rw q

  effect-nothing : (e.kind ≡ 1 → ⊥) → (e.kind ≡ 2 → ⊥) → (e.kind ≡ 3 → ⊥) → effect_meant e ≡ nothing
  unfolding effect_meant
  effect-nothing a b c = rw (ne_eqb e.kind 1 a, ne_eqb e.kind 2 b, ne_eqb e.kind 3 c)

module _ (rule : Rule) (rows : List Row) (e : Slot) where
  pub tells-inserted : e.kind ≡ 1 → Tells rule rows e (live_row rule rows e.handle) none none none
  unfolding inserted_of deleted_of new_of old_of inserted_row deleted_row new_row old_row
  tells-inserted q =
      record {
        inserted = rw (effect-inserted e q);
        deleted = rw (effect-inserted e q);
        new = rw (effect-inserted e q);
        old = rw (effect-inserted e q);
      }

  pub tells-deleted : e.kind ≡ 2 → Tells rule rows e none (own_row rule (row_meant e)) none none
  unfolding inserted_of deleted_of new_of old_of inserted_row deleted_row new_row old_row
  tells-deleted q =
      record {
        inserted = rw (effect-deleted e q);
        deleted = rw (effect-deleted e q);
        new = rw (effect-deleted e q);
        old = rw (effect-deleted e q);
      }

  pub tells-updated : e.kind ≡ 3 → meets rule e.mask ≡ true
      → Tells rule rows e none none (live_row rule rows e.handle) (own_row rule (row_meant e))
  unfolding inserted_of deleted_of new_of old_of inserted_row deleted_row new_row old_row
  tells-updated q t =
      record {
        inserted = rw (effect-updated e q);
        deleted = rw (effect-updated e q);
        new = rw (effect-updated e q, t);
        old = rw (effect-updated e q, t);
      }

  pub tells-missed : e.kind ≡ 3 → meets rule e.mask ≡ false → Tells rule rows e none none none none
  unfolding inserted_of deleted_of new_of old_of inserted_row deleted_row new_row old_row
  tells-missed q t =
      record {
        inserted = rw (effect-updated e q);
        deleted = rw (effect-updated e q);
        new = rw (effect-updated e q, t);
        old = rw (effect-updated e q, t);
      }

  pub tells-nothing : (e.kind ≡ 1 → ⊥) → (e.kind ≡ 2 → ⊥) → (e.kind ≡ 3 → ⊥) → Tells rule rows e none none none none
  unfolding inserted_of deleted_of new_of old_of inserted_row deleted_row new_row old_row
  tells-nothing a b c =
      record {
        inserted = rw (effect-nothing e a b c);
        deleted = rw (effect-nothing e a b c);
        new = rw (effect-nothing e a b c);
        old = rw (effect-nothing e a b c);
      }

-- ---- The four tables, by what the effect shows in each

module _ {rule : Rule} {e : Slot} {xs : List ℕ} (w : RoomForAll rule e xs) where
  pub shown-nowhere : Tells rule (live_rows xs) e none none none none → Shown rule e xs xs
  shown-nowhere t =
      record {
        frame = frame-refl;
        inserted = rw t.inserted (same-grown w.inserted.stands refl);
        deleted = rw t.deleted (same-grown w.deleted.stands refl);
        new = rw t.new (same-grown w.new.stands refl);
        old = rw t.old (same-grown w.old.stands refl);
      }

  pub shown-inserted : {ys : List ℕ} {o : Option Row} → Tells rule (live_rows xs) e o none none none → Added INSERTED xs ys o
      → Shown rule e xs ys
  unfolding table_bytes
  shown-inserted t a =
      record {
        frame = frame-wider a.frame (omega arith) (omega arith);
        inserted = rw t.inserted a.grown;
        deleted = rw t.deleted (grown-above a.frame w.deleted.stands (omega arith));
        new = rw t.new (grown-above a.frame w.new.stands (omega arith));
        old = rw t.old (grown-above a.frame w.old.stands (omega arith));
      }

  pub shown-deleted : {ys : List ℕ} {o : Option Row} → Tells rule (live_rows xs) e none o none none → Added DELETED xs ys o
      → Shown rule e xs ys
  unfolding table_bytes
  shown-deleted t a =
      record {
        frame = frame-wider a.frame (omega arith) (omega arith);
        inserted = rw t.inserted (grown-below a.frame w.inserted.stands (omega arith));
        deleted = rw t.deleted a.grown;
        new = rw t.new (grown-above a.frame w.new.stands (omega arith));
        old = rw t.old (grown-above a.frame w.old.stands (omega arith));
      }

  pub shown-updated : {ys zs : List ℕ} {o p : Option Row} → Tells rule (live_rows xs) e none none o p → Added OLD xs ys p
      → Added NEW ys zs o → Shown rule e xs zs
  unfolding table_bytes
  shown-updated {ys} {zs} t a b =
      let f : Frame NEW CHOSEN xs zs =
      frame-join a.frame b.frame (omega arith) (omega arith) (omega arith) (omega arith) in
      record {
        frame = frame-wider f (omega arith) (omega arith);
        inserted = rw t.inserted (grown-below f w.inserted.stands (omega arith));
        deleted = rw t.deleted (grown-below f w.deleted.stands (omega arith));
        new = rw t.new (then-grown (grown-below a.frame w.new.stands (omega arith)) b.grown);
        old = rw t.old (grown-then a.grown (grown-above b.frame a.grown.stands (omega arith)));
      }
