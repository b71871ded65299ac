-- How an operation joins a table by rising handle: before the place of its handle nothing changes; a slot of the same handle there is
-- joined, and goes where nothing is left of it; else the operation is inserted.
use Rattle.std.specs.Prelude.{if◌then◌else◌}
use mathlib.Core.Path.{◌≡◌, refl, sym, ap, ◌∙◌}
use mathlib.Core.Bool.{Bool, true, false}
use mathlib.Core.List.{List, [], ◌∷◌, ◌++◌}
use Prim.Native.Nat.{ℕ, suc, ◌<◌}
use native.Mathlib.Omega.{arith}
use borrow.Author.Tests.{eq-eqb, ne_eqb, ltb-true, ltb-false, eqb-true}
use lib.Bits.{bit_or}
use lib.Dec.{eqb, ltb}
use lib.ListN.{length, get_or, take, drop, set, drop_of_length-le}
use lib.Seq.{drop-cons, set_split, set-get_or}
use Rattle.meaning.specs.RowOperations.{join_kind, join_table}
use Rattle.words.specs.Words.{low32_at}
use Rattle.slots.specs.declared.Slot.{Slot}
use Rattle.slots.specs.Slots.{table_at, insert_at, remove_at, place_in, hit, blank, Stands, Holds, Sorted}
use Rattle.slots.proofs.Frames.{frame-refl}
use Rattle.slots.proofs.Tables.{table-length}
use Rattle.slots.proofs.Order.{place_is, insert-length}
use Rattle.room.specs.Joins.{as_effect, joined_slot, join_slot, kept_slot, join_slots, Takes}

-- ---- Of slots alone: what an update leaves as it was

-- an inserted row
pub inserted-stays : (a b : Slot) → a.kind ≡ 1 → b.kind ≡ 3 → (0 < a.kind) × (join_slot a b ≡ a)
unfolding join_slot joined_slot join_kind join_table
inserted-stays a b p q =
    let joined : join_kind a.kind b.kind ≡ 1 = rw (p, q) in
    (omega arith, ap (λ (k : ℕ). joined_slot k a b) joined)

-- a row updated in its columns
pub updated-stays : (a b : Slot) → a.kind ≡ 3 → b.kind ≡ 3 → bit_or a.mask b.mask ≡ a.mask → (0 < a.kind) × (join_slot a b ≡ a)
unfolding join_slot joined_slot join_kind join_table as_effect
updated-stays a b p q m =
    let joined : join_kind a.kind b.kind ≡ 3 = rw (p, q) in
    (omega arith, ap (λ (k : ℕ). joined_slot k a b) joined ∙ rw m (ap (λ (k : ℕ). as_effect k a.mask a) (sym p)))

-- ---- Of lists alone

-- from the place of the handle on
unfoldable here : Slot → List Slot → List Slot
here op [] = op ∷ []
here op (e ∷ l) = if eqb e.handle op.handle then kept_slot (join_slot e op) l else op ∷ e ∷ l

parts : (op : Slot) (l : List Slot) → join_slots op l ≡ take (place_in op.handle l) l ++ here op (drop (place_in op.handle l) l)
unfolding join_slots place_in here
parts op [] = refl
parts op (e ∷ l) = by (ltb e.handle op.handle) (parts op l)
  where
    by : (t : Bool) → join_slots op l ≡ take (place_in op.handle l) l ++ here op (drop (place_in op.handle l) l)
        → (if t then e ∷ join_slots op l else here op (e ∷ l))
        ≡ take (if t then suc (place_in op.handle l) else 0) (e ∷ l)
        ++ here op (drop (if t then suc (place_in op.handle l) else 0) (e ∷ l))
    by true r = ap (λ (m : List Slot). e ∷ m) r
    by false r = refl

-- a hit is in the list, and of the handle
pub hit-true : (h i : ℕ) (l : List Slot) → hit h i l ≡ true → (i < length l) × (eqb (get_or l i blank).handle h ≡ true)
unfolding hit
hit-true h i l q = by (ltb i (length l)) refl q
  where
    by : (t : Bool) → ltb i (length l) ≡ t → (if t then eqb (get_or l i blank).handle h else false) ≡ true
        → (i < length l) × (eqb (get_or l i blank).handle h ≡ true)
    by true t r = (ltb-true i (length l) t, r)
    by false t r = absurd (let z : ◌≡◌ {A = ℕ} 0 1 = cc in omega arith)

-- and by rising handle it is the place
pub hit-place : (h i : ℕ) (l : List Slot) → Sorted l → hit h i l ≡ true → i ≡ place_in h l
hit-place h i l s q =
    let b : i < length l = (hit-true h i l q).0 in
    let e : (get_or l i blank).handle ≡ h = eqb-true _ _ (hit-true h i l q).1 in
    sym (place_is h l i (omega arith) (λ k p. omega (arith, s.rises k i p b)) (λ p. omega arith))

module _ (op : Slot) (l : List Slot) (i : ℕ) (at : i ≡ place_in op.handle l) where
  join-hit : hit op.handle i l ≡ true → join_slots op l ≡ take i l ++ kept_slot (join_slot (get_or l i blank) op) (drop (suc i) l)
  unfolding here
  join-hit q =
      let p = hit-true op.handle i l q in
      let b : i < length l = p.0 in
      parts op l ∙ rw (← at, drop-cons l i blank b, p.1)

  -- nothing is left of the slot of the handle
  pub join-removes : hit op.handle i l ≡ true → (join_slot (get_or l i blank) op).kind ≡ 0 → join_slots op l ≡ remove_at i l
  unfolding kept_slot remove_at
  join-removes q k = join-hit q ∙ rw (eq-eqb (join_slot (get_or l i blank) op).kind 0 k)

  -- the slot of the handle is joined
  pub join-sets : hit op.handle i l ≡ true → ((join_slot (get_or l i blank) op).kind ≡ 0 → ⊥)
      → join_slots op l ≡ set l i (join_slot (get_or l i blank) op)
  unfolding kept_slot
  join-sets q k =
      join-hit q
      ∙ rw (ne_eqb (join_slot (get_or l i blank) op).kind 0 k)
      (sym (set_split l i (join_slot (get_or l i blank) op) (hit-true op.handle i l q).0))

  -- no slot has the handle
  pub join-inserts : hit op.handle i l ≡ false → join_slots op l ≡ insert_at i op l
  unfolding hit here insert_at
  join-inserts q = parts op l ∙ rw (← at) (ap (λ (r : List Slot). take i l ++ r) (by (ltb i (length l)) refl))
    where
      by : (t : Bool) → ltb i (length l) ≡ t → here op (drop i l) ≡ op ∷ drop i l
      by true t =
          let b : i < length l = ltb-true i (length l) t in
          let e : eqb (get_or l i blank).handle op.handle ≡ false = rw t at q in
          rw (drop-cons l i blank b, e)
      by false t = rw (drop_of_length-le l (ltb-false i (length l) t))

-- slots of the same handle join to one of that handle
pub joined-handle : (e op : Slot) → e.handle ≡ op.handle → (join_slot e op).handle ≡ e.handle
unfolding join_slot joined_slot as_effect
joined-handle e op q =
    by (eqb (join_kind e.kind op.kind) 2) (eqb (join_kind e.kind op.kind) 3) (eqb (join_kind e.kind op.kind) 0)
  where
    by : (t u v : Bool)
        → (if t then op else
        if u then as_effect 3 (bit_or e.mask op.mask) e else
        if v then as_effect 0 0 e else e).handle ≡ e.handle
    by true u v = sym q
    by false true v = refl
    by false false true = refl
    by false false false = refl

-- ---- Of a table in the room

-- a place that is hit is in the table
pub hit-within : (xs : List ℕ) (base i h : ℕ) → hit h i (table_at xs base) ≡ true → i < low32_at xs base
hit-within xs base i h q = omega (arith, (hit-true h i (table_at xs base) q).0, table-length xs base)

module _ (xs : List ℕ) (base i : ℕ) (op : Slot) (at : i ≡ place_in op.handle (table_at xs base)) where
  -- a table that takes an operation on another handle has a slot free
  pub free-slot : hit op.handle i (table_at xs base) ≡ false → Takes op (table_at xs base) → low32_at xs base < 128
  free-slot q t =
      omega (
        arith,
        t.fits,
        ap length (join-inserts op (table_at xs base) i at q),
        insert-length i op (table_at xs base),
        table-length xs base,
      )

  pub joined-insert : {ys : List ℕ} → hit op.handle i (table_at xs base) ≡ false → Holds base 128 xs ys (insert_at i op (table_at xs base))
      → Holds base 128 xs ys (join_slots op (table_at xs base))
  joined-insert q p = rw (join-inserts op (table_at xs base) i at q) p

  module _ (e : Slot) (q : hit op.handle i (table_at xs base) ≡ true) (read : e ≡ get_or (table_at xs base) i blank) where
    pub joined-remove : {ys : List ℕ} → (join_slot e op).kind ≡ 0 → Holds base 128 xs ys (remove_at i (table_at xs base))
        → Holds base 128 xs ys (join_slots op (table_at xs base))
    joined-remove k p = rw (join-removes op (table_at xs base) i at q (rw (← read) k)) p

    pub joined-put : {ys : List ℕ} → ((join_slot e op).kind ≡ 0 → ⊥) → Holds base 128 xs ys (set (table_at xs base) i (join_slot e op))
        → Holds base 128 xs ys (join_slots op (table_at xs base))
    joined-put k p = rw (join-sets op (table_at xs base) i at q (rw (← read) k), ← read) p

    -- a slot that stays as it was is as good as stored
    pub joined_same : Stands base 128 xs → (0 < e.kind) × (join_slot e op ≡ e) → Holds base 128 xs xs (join_slots op (table_at xs base))
    joined_same s p =
        let l : List Slot = table_at xs base in
        let kept : set l i (join_slot e op) ≡ l = rw (p.1, read) (set-get_or l i blank) in
        joined-put (λ k. omega (arith, ap (λ (x : Slot). x.kind) p.1))
        (record { frame = frame-refl; stands = s; list = sym kept })
