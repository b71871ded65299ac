-- What was done and what waits, slot by slot: where a table's slots mean a net effect, they stand by rising handle, and an operation more
-- joins them as it joins the net effect, since slots join as the effects that they mean; and so does a whole stretch of a table.
use mathlib.Core.Path.{◌≡◌, refl, sym, ap, ◌∙◌}
use mathlib.Core.Logic.{◌≢◌}
use mathlib.Core.Bool.{Bool, true, false}
use mathlib.Core.List.{List, [], ◌∷◌}
use Prim.Native.Nat.{ℕ, zero, suc, ◌≤◌, ◌<◌}
use native.Mathlib.Omega.{arith}
use lib.Dec.{eqb, ltb}
use lib.ListN.{length, get_or, length-map}
use borrow.Author.Tests.{eqb-true}
use Rattle.meaning.specs.RowOperations.{RowOperation, inserts, deletes, updates, Effect, NetEffect, nothing, inserted, deleted, updated}
use Rattle.meaning.specs.RowOperations.{kind, join_table, join_kind, over, joined_as, join, effect_of, entry, on_table, own_of}
use Rattle.meaning.proofs.NetEffects.{join_into, join_operation, Listed, one_entry}
use Rattle.slots.specs.declared.Slot.{Slot}
use Rattle.slots.specs.Slots.{blank, Sorted}
use Rattle.room.specs.Room.{row_meant, effect_meant, entry_meant, wait_meant}
use Rattle.room.specs.Joins.{as_effect, joined_slot, join_slot, kept_slot, join_slots, join_if, join_stretch}
use Rattle.meaning.proofs.Stretches.{join_effects, join-into-listed}
use Rattle.room.specs.Represents.{Says}

unfoldable meant : Unit {0}
unfolding row_meant effect_meant entry_meant wait_meant
meant = tt

unfoldable joins : Unit {0}
unfolding meant kind join_table join_kind over joined_as join entry as_effect joined_slot join_slot kept_slot
joins = tt

-- ---- A slot

-- the three kinds that mean something
data Kind (e : Slot) : Type 0 where
  one : e.kind ≡ 1 → Kind e
  two : e.kind ≡ 2 → Kind e
  three : e.kind ≡ 3 → Kind e

kind-of : (e : Slot) → effect_meant e ≢ nothing → Kind e
unfolding effect_meant
kind-of e n = go (eqb e.kind 1) refl (eqb e.kind 2) refl (eqb e.kind 3) refl
  where
    go : (a : Bool) → eqb e.kind 1 ≡ a → (b : Bool) → eqb e.kind 2 ≡ b → (c : Bool) → eqb e.kind 3 ≡ c → Kind e
    go true p b q c r = one (eqb-true e.kind 1 p)
    go false p true q c r = two (eqb-true e.kind 2 q)
    go false p false q true r = three (eqb-true e.kind 3 r)
    go false p false q false r = absurd (n (rw (p, q, r)))

-- two slots join as what they mean
slot-join : (e op : Slot) (l : List Slot) → Kind e → Kind op → e.handle ≡ op.handle
    → wait_meant (kept_slot (join_slot e op) l) ≡ entry op.handle (join (effect_meant e) (effect_meant op)) (wait_meant l)
unfolding joins
slot-join e op l (one p) (one q) h = rw (p, q, h)
slot-join e op l (one p) (two q) h = rw (p, q)
slot-join e op l (one p) (three q) h = rw (p, q, h)
slot-join e op l (two p) (one q) h = rw (p, q, h)
slot-join e op l (two p) (two q) h = rw (p, q, h)
slot-join e op l (two p) (three q) h = rw (p, q, h)
slot-join e op l (three p) (one q) h = rw (p, q, h)
slot-join e op l (three p) (two q) h = rw (p, q)
slot-join e op l (three p) (three q) h = rw (p, q, h)

entry-some : (h : ℕ) (e : Effect) (es : NetEffect) → e ≢ nothing → entry h e es ≡ (h, e) ∷ es
unfolding entry
entry-some h nothing es n = absurd (n refl)
entry-some h (inserted t) es n = refl
entry-some h (deleted r) es n = refl
entry-some h (updated m r) es n = refl

-- ---- A table

table-join : {low : ℕ} (op : Slot) (l : List Slot) → effect_meant op ≢ nothing → Listed low (wait_meant l)
    → wait_meant (join_slots op l) ≡ join_into op.handle (effect_meant op) (wait_meant l)
unfolding entry_meant wait_meant join_slots join_into
table-join op [] n p = sym (entry-some op.handle (effect_meant op) [] n)
table-join op (e ∷ l) n (one_entry a b r) = go (ltb e.handle op.handle) refl (eqb e.handle op.handle) refl (table-join op l n r)
  where
    go : (c : Bool) → ltb e.handle op.handle ≡ c → (d : Bool) → eqb e.handle op.handle ≡ d
        → wait_meant (join_slots op l) ≡ join_into op.handle (effect_meant op) (wait_meant l)
        → wait_meant (join_slots op (e ∷ l)) ≡ join_into op.handle (effect_meant op) (wait_meant (e ∷ l))
    go true t d q ih = rw (t, ih)
    go false t true q ih = rw (t, q) (slot-join e op l (kind-of e b) (kind-of op n) (eqb-true e.handle op.handle q))
    go false t false q ih = rw (t, q) (sym (entry-some op.handle (effect_meant op) (wait_meant (e ∷ l)) n))

listed-over : {low : ℕ} (l : List Slot) → Listed low (wait_meant l) → (j : ℕ) → j < length l → low ≤ (get_or l j blank).handle
unfolding entry_meant wait_meant
listed-over [] p j h = absurd (omega arith)
listed-over (e ∷ l) (one_entry a b r) zero h = a
listed-over (e ∷ l) (one_entry a b r) (suc j) h = omega (arith, listed-over l r j (omega arith))

listed-rises : {low : ℕ} (l : List Slot) → Listed low (wait_meant l) → (i j : ℕ) → i < j → j < length l
    → (get_or l i blank).handle < (get_or l j blank).handle
unfolding entry_meant wait_meant
listed-rises [] p i j h b = absurd (omega arith)
listed-rises (e ∷ l) p i zero h b = absurd (omega arith)
listed-rises (e ∷ l) (one_entry a c r) zero (suc j) h b = listed-over l r j (omega arith)
listed-rises (e ∷ l) (one_entry a c r) (suc i) (suc j) h b = listed-rises l r i j (omega arith) (omega arith)

-- ---- A stretch

-- a slot is on the table that it names
slot-table : (t : ℕ) (e : Slot) → effect_meant e ≢ nothing → on_table t (effect_meant e) ≡ eqb e.table t
unfolding meant on_table
slot-table t e n = go (kind-of e n)
  where
    go : Kind e → on_table t (effect_meant e) ≡ eqb e.table t
    go (one p) = rw p
    go (two p) = rw p
    go (three p) = rw p

stretch-join : {low : ℕ} (t : ℕ) (ops l : List Slot) → Listed low (wait_meant ops) → Listed 0 (wait_meant l)
    → wait_meant (join_stretch t ops l) ≡ join_effects (own_of t (wait_meant ops)) (wait_meant l)
unfolding join_if join_stretch join_effects own_of wait_meant entry_meant
stretch-join t [] l p q = refl
stretch-join t (op ∷ ops) l (one_entry a b r) q = go (eqb op.table t) refl (λ m. stretch-join t ops m r)
  where
    joined : wait_meant (join_slots op l) ≡ join_into op.handle (effect_meant op) (wait_meant l)
    joined = table-join op l b q

    go : (c : Bool) → eqb op.table t ≡ c
        → ((m : List Slot) → Listed 0 (wait_meant m) → wait_meant (join_stretch t ops m) ≡ join_effects (own_of t (wait_meant ops)) (wait_meant m))
        → wait_meant (join_stretch t (op ∷ ops) l) ≡ join_effects (own_of t (wait_meant (op ∷ ops))) (wait_meant l)
    go true e ih =
        let listed : Listed 0 (wait_meant (join_slots op l)) = rw joined (join-into-listed op.handle (effect_meant op) (omega arith) q) in
        rw (e, slot-table t op b, e) (ih (join_slots op l) listed ∙ rw joined)
    go false e ih = rw (e, slot-table t op b, e) (ih l q)

-- ---- What waits

-- an operation does something
effect-some : (o : RowOperation) → effect_of o ≢ nothing
unfolding effect_of
effect-some (inserts r) q = let z : ◌≡◌ {A = ℕ} 0 1 = cc in omega arith
effect-some (deletes r) q = let z : ◌≡◌ {A = ℕ} 0 1 = cc in omega arith
effect-some (updates m old new) q = let z : ◌≡◌ {A = ℕ} 0 1 = cc in omega arith

pub waits-length : (l : List Slot) (es : NetEffect) → wait_meant l ≡ es → length l ≡ length es
unfolding wait_meant
waits-length l es w = sym (length-map l entry_meant) ∙ ap length w

module _ (l : List Slot) (es : NetEffect) (listed : Listed 0 es) (w : wait_meant l ≡ es) where
  waits-listed : Listed 0 (wait_meant l)
  waits-listed = rw w listed

  pub waits-sorted : Sorted l
  waits-sorted = record { rises = listed-rises l waits-listed }

  pub waits-more : {o : RowOperation} {op : Slot} → Says o op → wait_meant (join_slots op l) ≡ join_operation o es
  unfolding join_operation
  waits-more {o} {op} s = table-join op l (λ q. effect-some o (sym s.effect ∙ q)) waits-listed ∙ rw (s.effect, s.handle, w)

-- two tables that mean net effects
pub waits-stretch : (t : ℕ) (ops l : List Slot) (es fs : NetEffect) → Listed 0 es → Listed 0 fs → wait_meant ops ≡ es → wait_meant l ≡ fs
    → wait_meant (join_stretch t ops l) ≡ join_effects (own_of t es) fs
waits-stretch t ops l es fs p q w v = stretch-join {low = 0} t ops l (rw w p) (rw v q) ∙ rw (w, v)
