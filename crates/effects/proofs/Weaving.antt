-- A stretch by rising handle joins what waits from front to back. A slot below every handle of the stretch stays in front; one of the
-- handle of its first effect is joined with that effect, and no later effect meets it; else the first effect comes before what is left.
use Rattle.std.specs.Prelude.{if◌then◌else◌}
use mathlib.Core.Path.{◌≡◌, refl, sym, ap, ◌∙◌, subst}
use mathlib.Core.Bool.{Bool, true, false}
use mathlib.Core.List.{List, [], ◌∷◌, ◌++◌, append_assoc}
use Prim.Native.Nat.{ℕ, suc, ◌+◌, ◌≤◌, ◌<◌}
use native.Mathlib.Numerals.{add-one}
use native.Mathlib.Omega.{arith}
use borrow.Author.Tests.{eq-eqb, ne_eqb, lt-ltb, le-ltb, ltb-true, ltb-false, eqb-true}
use lib.Dec.{eqb, ltb}
use lib.ListN.{length, get_or, take, drop, length-drop, take-append-drop, drop_of_length-le}
use lib.Seq.{slice, length-slice, drop-cons, drop-append-le, length-take-le, get_or-take, get_or-drop}
use Rattle.words.specs.Words.{low32_at}
use Rattle.words.proofs.Laws.{split}
use Rattle.slots.specs.declared.Slot.{Slot}
use Rattle.slots.specs.Slots.{table_at, blank, place_in, hit, Sorted}
use Rattle.slots.proofs.Tables.{table-length}
use Rattle.slots.proofs.Order.{place-within, place-under, place-over, sorted-le}
use Rattle.room.specs.Joins.{join_slot, kept_slot, join_slots, join_if, join_stretch}
use Rattle.effects.specs.Settling.{rest, Passed}
use Rattle.effects.proofs.Joining.{hit-true, joined-handle}

-- each handle of l is above h
record Above (h : ℕ) (l : List Slot) : Type 0 where
  each : (j : ℕ) → j < length l → h < (get_or l j blank).handle

above-tail : {h : ℕ} {x : Slot} {l : List Slot} → Above h (x ∷ l) → Above h l
above-tail o = record { each = λ j p. o.each (suc j) (omega arith) }

-- ---- What stays in front

if-passes : (b : Bool) (op a : Slot) (l : List Slot) → a.handle < op.handle → join_if b op (a ∷ l) ≡ a ∷ join_if b op l
unfolding join_if join_slots
if-passes true op a l h = rw (lt-ltb a.handle op.handle h)
if-passes false op a l h = refl

module _ (t : ℕ) where
  passes : (ops : List Slot) (a : Slot) (l : List Slot) → Above a.handle ops → join_stretch t ops (a ∷ l) ≡ a ∷ join_stretch t ops l
  unfolding join_stretch
  passes [] a l o = refl
  passes (op ∷ ops) a l o =
      ap (join_stretch t ops) (if-passes (eqb op.table t) op a l (o.each 0 (omega arith)))
      ∙ passes ops a (join_if (eqb op.table t) op l) (above-tail o)

  passes-all : (ops front l : List Slot) → ((k : ℕ) → k < length front → Above (get_or front k blank).handle ops)
      → join_stretch t ops (front ++ l) ≡ front ++ join_stretch t ops l
  passes-all ops [] l o = refl
  passes-all ops (a ∷ front) l o =
      passes ops a (front ++ l) (o 0 (omega arith))
      ∙ ap (λ (m : List Slot). a ∷ m) (passes-all ops front l (λ k p. o (suc k) (omega arith)))

  passes_kept : (ops : List Slot) (e : Slot) (l : List Slot) → Above e.handle ops
      → join_stretch t ops (kept_slot e l) ≡ kept_slot e (join_stretch t ops l)
  unfolding kept_slot
  passes_kept ops e l o = by (eqb e.kind 0)
    where
      by : (b : Bool) → join_stretch t ops (if b then l else e ∷ l) ≡ (if b then join_stretch t ops l else e ∷ join_stretch t ops l)
      by true = refl
      by false = passes ops e l o

kept-before : (e : Slot) (l : List Slot) → kept_slot e l ≡ kept_slot e [] ++ l
unfolding kept_slot
kept-before e l = by (eqb e.kind 0)
  where
    by : (b : Bool) → (if b then l else e ∷ l) ≡ (if b then [] else e ∷ []) ++ l
    by true = refl
    by false = refl

-- ---- Places

drop-slice : {A : Type 0} (i m : ℕ) (l : List A) → i ≤ m → m ≤ length l → drop i l ≡ slice i m l ++ drop m l
drop-slice i m l h b =
    ap (drop i) (sym (take-append-drop m l)) ∙ drop-append-le i (take m l) (drop m l) (omega (arith, length-take-le m l b))

above-after : (S : List Slot) (j : ℕ) → Sorted S → j < length S → Above (get_or S j blank).handle (drop (suc j) S)
above-after S j s h =
    record {
      each =
          λ k p.
          let b : suc j + k < length S = omega (arith, length-drop (suc j) S) in
          rw (get_or-drop (suc j) S k blank) (s.rises j (suc j + k) (omega arith) b);
    }

module _ {A S : List Slot} {i j : ℕ} (p : Passed A S i j) (k : ℕ) (h : k < i) where
  passed-above : Above (get_or A k blank).handle (drop j S)
  passed-above =
      record {
        each =
            λ l b.
            let c : j + l < length S = omega (arith, length-drop j S) in
            rw (get_or-drop j S l blank) (p.below k (j + l) h (omega arith) c);
      }

-- before a later place, what waits stays in front
pub rest-front : (t : ℕ) {A S : List Slot} (i : ℕ) {m j : ℕ} → Passed A S m j → i ≤ m → rest t A S i j ≡ slice i m A ++ rest t A S m j
rest-front t {A} {S} i {m} {j} p h =
    ap (join_stretch t (drop j S)) (drop-slice i m A h p.top)
    ∙ passes-all t (drop j S) (slice i m A) (drop m A) (λ k b.
    let c : i + k < m = omega (arith, length-slice i m A p.top) in
    rw (get_or-drop i (take m A) k blank, get_or-take m A (i + k) blank c) (passed-above p (i + k) c))

module _ (t : ℕ) (A S : List Slot) (i j : ℕ) (h : j < length S) where
  -- an effect on another table is passed over
  pub rest-skips : ((get_or S j blank).table ≡ t → ⊥) → rest t A S i j ≡ rest t A S i (suc j)
  unfolding join_stretch join_if
  rest-skips n =
      ap (λ (ops : List Slot). join_stretch t ops (drop i A)) (drop-cons S j blank h)
      ∙ ap (λ (b : Bool). join_stretch t (drop (suc j) S) (join_if b (get_or S j blank) (drop i A))) (ne_eqb (get_or S j blank).table t n)

  -- one on the table joins what waits
  pub rest-takes : (get_or S j blank).table ≡ t → rest t A S i j ≡ join_stretch t (drop (suc j) S) (join_slots (get_or S j blank) (drop i A))
  unfolding join_stretch join_if
  rest-takes q =
      ap (λ (ops : List Slot). join_stretch t ops (drop i A)) (drop-cons S j blank h)
      ∙ ap (λ (b : Bool). join_stretch t (drop (suc j) S) (join_if b (get_or S j blank) (drop i A))) (eq-eqb (get_or S j blank).table t q)

-- where all of the stretch is passed
pub rest-ends : (t : ℕ) (A S : List Slot) (i j : ℕ) → length S ≤ j → rest t A S i j ≡ drop i A
unfolding join_stretch
rest-ends t A S i j h = rw (drop_of_length-le S h)

pub passed_on : {A S : List Slot} {i j : ℕ} → Passed A S i j → Passed A S i (j + 1)
passed_on p = record { sorted = p.sorted; rises = p.rises; top = p.top; below = λ k l a b c. p.below k l a (omega arith) c }

-- ---- The search for the place of a handle, which is not before i

module _ (xs : List ℕ) (base h i : ℕ) (low : i ≤ place_in h (table_at xs base)) where
  pub place_here : h ≤ (get_or (table_at xs base) i blank).handle → i ≡ place_in h (table_at xs base)
  place_here b =
      let A : List Slot = table_at xs base in
      split (ltb i (place_in h A))
      (λ e. absurd (omega (arith, place-under h A i (ltb-true i (place_in h A) e))))
      (λ e. omega (arith, ltb-false i (place_in h A) e))

  module _ {n : ℕ} (size : n ≡ low32_at xs base) where
    pub place-later : i < n → (get_or (table_at xs base) i blank).handle < h → i + 1 ≤ place_in h (table_at xs base)
    place-later b lt =
        let A : List Slot = table_at xs base in
        split (ltb i (place_in h A))
        (λ e. omega (arith, ltb-true i (place_in h A) e))
        (λ e.
        let same : place_in h A ≡ i = omega (arith, ltb-false i (place_in h A) e) in
        let over : h ≤ (get_or A i blank).handle =
        subst (λ (k : ℕ). h ≤ (get_or A k blank).handle) same (place-over h A (omega (arith, table-length xs base))) in
        absurd (omega arith))

    pub place-last : n ≤ i → n ≡ place_in h (table_at xs base)
    place-last b = omega (arith, place-within h (table_at xs base), table-length xs base)

-- ---- At the place of an effect's handle

module _ {A S : List Slot} {j : ℕ} (h : j < length S) where
  -- the place is not before those that were passed
  pub place_after : {i : ℕ} → Passed A S i j → i ≤ place_in (get_or S j blank).handle A
  place_after {i} p =
      let at : ℕ = place_in (get_or S j blank).handle A in
      split (ltb at i)
      (λ e.
      let lt : at < i = ltb-true at i e in
      let in-l : at < length A = omega (arith, p.top) in
      absurd (omega (arith, place-over (get_or S j blank).handle A in-l, p.below at j lt (omega arith) h)))
      (λ e. ltb-false at i e)

module _ {A S : List Slot} {i j : ℕ} (p : Passed A S i j) (h : j < length S) (m : ℕ) (at : m ≡ place_in (get_or S j blank).handle A) where
  -- what waits up to the place is passed
  pub passed-place : Passed A S m j
  passed-place =
      record {
        sorted = p.sorted;
        rises = p.rises;
        top = omega (arith, place-within (get_or S j blank).handle A);
        below =
            λ k l a b c.
            let low : (get_or A k blank).handle < (get_or S j blank).handle = place-under _ A k (omega arith) in
            omega (arith, sorted-le p.rises j l b c);
      }

  -- and so for what comes after the effect
  pub passed-before : Passed A S m (j + 1)
  passed-before = passed_on passed-place

  pub passed-hit : hit (get_or S j blank).handle m A ≡ true → Passed A S (m + 1) (j + 1)
  passed-hit e =
      let b = hit-true (get_or S j blank).handle m A e in
      let same : (get_or A m blank).handle ≡ (get_or S j blank).handle = eqb-true _ _ b.1 in
      record {
        sorted = p.sorted;
        rises = p.rises;
        top = omega (arith, b.0);
        below =
            λ k l a d c.
            omega (arith, sorted-le p.sorted k m (omega arith) b.0, p.rises.rises j l (omega arith) c);
      }

  module _ (t : ℕ) (own : (get_or S j blank).table ≡ t) where
    -- a slot of the effect's handle joins it
    rest-hit : hit (get_or S j blank).handle m A ≡ true
        → rest t A S m j ≡ kept_slot (join_slot (get_or A m blank) (get_or S j blank)) (rest t A S (suc m) (suc j))
    unfolding join_slots
    rest-hit e =
        let b = hit-true (get_or S j blank).handle m A e in
        let same : (get_or A m blank).handle ≡ (get_or S j blank).handle = eqb-true _ _ b.1 in
        let one : join_slots (get_or S j blank) (drop m A) ≡ kept_slot (join_slot (get_or A m blank) (get_or S j blank)) (drop (suc m) A) =
        ap (join_slots (get_or S j blank)) (drop-cons A m blank b.0)
        ∙ rw (le-ltb (get_or A m blank).handle (get_or S j blank).handle (omega arith), b.1) in
        rest-takes t A S m j h own ∙ ap (join_stretch t (drop (suc j) S)) one
        ∙ passes_kept t (drop (suc j) S) (join_slot (get_or A m blank) (get_or S j blank)) (drop (suc m) A)
        (rw (joined-handle (get_or A m blank) (get_or S j blank) same, same) (above-after S j p.rises h))

    -- where there is none, it comes next
    rest-new : hit (get_or S j blank).handle m A ≡ false → rest t A S m j ≡ get_or S j blank ∷ rest t A S m (suc j)
    unfolding join_slots hit
    rest-new e =
        let one : join_slots (get_or S j blank) (drop m A) ≡ get_or S j blank ∷ drop m A =
        split (ltb m (length A))
        (λ t.
        let b : m < length A = ltb-true m (length A) t in
        let high : (get_or S j blank).handle ≤ (get_or A m blank).handle = rw (← at) at (place-over (get_or S j blank).handle A (rw (← at) b)) in
        let other : eqb (get_or A m blank).handle (get_or S j blank).handle ≡ false = rw t at e in
        rw (drop-cons A m blank b, le-ltb (get_or A m blank).handle (get_or S j blank).handle high, other))
        (λ t. rw (drop_of_length-le A (ltb-false m (length A) t))) in
        rest-takes t A S m j h own ∙ ap (join_stretch t (drop (suc j) S)) one
        ∙ passes t (drop (suc j) S) (get_or S j blank) (drop m A) (above-after S j p.rises h)

    -- what is woven and what is left are as they were
    module _ (done : List Slot) where
      pub woven-hit : hit (get_or S j blank).handle m A ≡ true
          → ((done ++ slice i m A) ++ kept_slot (join_slot (get_or A m blank) (get_or S j blank)) []) ++ rest t A S (m + 1) (j + 1)
          ≡ done ++ rest t A S i j
      woven-hit e =
          let e' : Slot = join_slot (get_or A m blank) (get_or S j blank) in
          rw (
            add-one,
            add-one,
            append_assoc (done ++ slice i m A) (kept_slot e' []) (rest t A S (suc m) (suc j)),
            ← kept-before e' (rest t A S (suc m) (suc j)),
            ← rest-hit e,
            append_assoc done (slice i m A) (rest t A S m j),
            ← rest-front t i passed-place (rw at (place_after h p)),
          )

      pub woven-new : hit (get_or S j blank).handle m A ≡ false
          → ((done ++ slice i m A) ++ (get_or S j blank ∷ [])) ++ rest t A S m (j + 1) ≡ done ++ rest t A S i j
      woven-new e =
          rw (
            add-one,
            append_assoc (done ++ slice i m A) (get_or S j blank ∷ []) (rest t A S m (suc j)),
            ← rest-new e,
            append_assoc done (slice i m A) (rest t A S m j),
            ← rest-front t i passed-place (rw at (place_after h p)),
          )
