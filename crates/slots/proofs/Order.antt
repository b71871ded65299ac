-- Tables by rising handle: where a handle is. Of lists alone; what stands before a place is below the handle, and what stands from it on is
-- not.
use Rattle.std.specs.Prelude.{if◌then◌else◌, Option, Some, None}
use mathlib.Core.Path.{◌≡◌, refl, sym, ap, ◌∙◌, subst}
use mathlib.Core.Bool.{Bool, true, false}
use mathlib.Core.List.{List, [], ◌∷◌}
use mathlib.Core.Logic.{⊎_elim}
use Prim.Native.Nat.{ℕ, zero, suc, ◌-◌, ◌≤◌, ◌<◌}
use native.Mathlib.Nat.{eq-or-lt_of_le}
use native.Mathlib.Omega.{arith}
use borrow.Author.Tests.{lt-ltb, le-ltb, ltb-true, ltb-false, eq-eqb, eqb-true}
use lib.Dec.{eqb, ltb}
use lib.ListN.{length, get_or}
use Rattle.words.proofs.Laws.{split}
use Rattle.slots.specs.declared.Slot.{Slot}
use Rattle.slots.specs.Slots.{insert_at, blank, place_in, hit, find_in, Sorted}

-- no slot of l has the handle h
pub record Absent (h : ℕ) (l : List Slot) : Type 0 where
  pub differs : (j : ℕ) → j < length l → (get_or l j blank).handle ≡ h → ⊥

-- ---- The place of a handle

pub place_is : (h : ℕ) (l : List Slot) (i : ℕ) → i ≤ length l → ((k : ℕ) → k < i → (get_or l k blank).handle < h)
    → (i < length l → h ≤ (get_or l i blank).handle) → place_in h l ≡ i
unfolding place_in
place_is h [] i b lo hi = omega arith
place_is h (e ∷ l) zero b lo hi = rw (le-ltb e.handle h (hi (omega arith)))
place_is h (e ∷ l) (suc i) b lo hi =
    rw (
      lt-ltb e.handle h (lo 0 (omega arith)),
      place_is h l i (omega arith) (λ k p. lo (suc k) (omega arith)) (λ p. hi (omega arith)),
    )

pub place-within : (h : ℕ) (l : List Slot) → place_in h l ≤ length l
unfolding place_in
place-within h [] = omega arith
place-within h (e ∷ l) = by (ltb e.handle h) (place-within h l)
  where
    by : (t : Bool) → place_in h l ≤ length l → (if t then suc (place_in h l) else 0) ≤ length (e ∷ l)
    by true r = omega arith
    by false r = omega arith

pub place-under : (h : ℕ) (l : List Slot) (k : ℕ) → k < place_in h l → (get_or l k blank).handle < h
unfolding place_in
place-under h [] k b = absurd (omega arith)
place-under h (e ∷ l) k b = by (ltb e.handle h) refl k b (place-under h l)
  where
    by : (t : Bool) → ltb e.handle h ≡ t → (j : ℕ) → j < (if t then suc (place_in h l) else 0)
        → ((i : ℕ) → i < place_in h l → (get_or l i blank).handle < h) → (get_or (e ∷ l) j blank).handle < h
    by true q zero p r = ltb-true e.handle h q
    by true q (suc j) p r = r j (omega arith)
    by false q j p r = absurd (omega arith)

pub place-over : (h : ℕ) (l : List Slot) → place_in h l < length l → h ≤ (get_or l (place_in h l) blank).handle
unfolding place_in
place-over h [] b = absurd (omega arith)
place-over h (e ∷ l) b = by (ltb e.handle h) refl b (place-over h l)
  where
    by : (t : Bool) → ltb e.handle h ≡ t → (if t then suc (place_in h l) else 0) < length (e ∷ l)
        → (place_in h l < length l → h ≤ (get_or l (place_in h l) blank).handle)
        → h ≤ (get_or (e ∷ l) (if t then suc (place_in h l) else 0) blank).handle
    by true q p r = r (omega arith)
    by false q p r = ltb-false e.handle h q

pub sorted-le : {l : List Slot} → Sorted l → (i j : ℕ) → i ≤ j → j < length l → (get_or l i blank).handle ≤ (get_or l j blank).handle
sorted-le {l} s i j h b =
    ⊎_elim
    (λ (q : i ≡ j). subst (λ (m : ℕ). (get_or l i blank).handle ≤ (get_or l m blank).handle) q (omega arith))
    (λ (q : i < j). omega (arith, s.rises i j q b))
    (eq-or-lt_of_le h)

-- a handle is at its place, and one above the last at the end
pub place-there : (h : ℕ) (l : List Slot) (i : ℕ) → Sorted l → i < length l → (get_or l i blank).handle ≡ h → place_in h l ≡ i
place-there h l i s b q = place_is h l i (omega arith) (λ k p. omega (arith, s.rises k i p b)) (λ p. omega arith)

pub place_end : (h : ℕ) (l : List Slot) (n : ℕ) → Sorted l → length l ≡ n → (0 < n → (get_or l (n - 1) blank).handle < h) → place_in h l ≡ n
place_end h l n s q last =
    place_is h l n (omega arith)
    (λ k p. omega (arith, sorted-le s k (n - 1) (omega arith) (omega arith), last (omega arith))) (λ p. absurd (omega arith))

pub hit-at : (h i : ℕ) (l : List Slot) {t : Bool} → t ≡ hit h i l → t ≡ true → (i < length l) × ((get_or l i blank).handle ≡ h)
unfolding hit
hit-at h i l e f = by (ltb i (length l)) refl (sym e ∙ f)
  where
    by : (t : Bool) → ltb i (length l) ≡ t → (if t then eqb (get_or l i blank).handle h else false) ≡ true
        → (i < length l) × ((get_or l i blank).handle ≡ h)
    by true a g = (ltb-true i (length l) a, eqb-true (get_or l i blank).handle h g)
    by false a g = absurd (let z : ◌≡◌ {A = ℕ} 0 1 = cc in omega arith)

-- ---- Where the slot of a handle is

pub find-yes : (l : List Slot) (h i : ℕ) → i ≡ place_in h l → i < length l → (get_or l i blank).handle ≡ h → Some i ≡ find_in h l
unfolding find_in
find-yes l h i q b e = sym (rw (← q, lt-ltb i (length l) b, eq-eqb (get_or l i blank).handle h e))

-- by whether it is at its place
pub find-hit : (l : List Slot) (h i : ℕ) {t : Bool} → i ≡ place_in h l → t ≡ hit h i l → t ≡ true → Some i ≡ find_in h l
find-hit l h i q e f = let here = hit-at h i l e f in find-yes l h i q here.0 here.1

pub find-miss : (l : List Slot) (h i : ℕ) {t : Bool} → i ≡ place_in h l → t ≡ hit h i l → t ≡ false → None ≡ find_in h l
unfolding hit find_in
find-miss l h i q e f = rw (← q) (by (ltb i (length l)) (eqb (get_or l i blank).handle h) (sym e ∙ f))
  where
    by : (t u : Bool) → (if t then u else false) ≡ false → ◌≡◌ {A = Option ℕ} None (if t then (if u then Some i else None) else None)
    by true true g = absurd (let z : ◌≡◌ {A = ℕ} 0 1 = cc in omega arith)
    by true false g = refl
    by false u g = refl

-- what each answer says
pub find_at : (h : ℕ) (l : List Slot) {i : ℕ} → find_in h l ≡ Some i → (i < length l) × ((get_or l i blank).handle ≡ h)
unfolding find_in
find_at h l {i} f = by (ltb p (length l)) refl (eqb (get_or l p blank).handle h) refl f
  where
    p : ℕ
    p = place_in h l

    by : (t : Bool) → ltb p (length l) ≡ t → (u : Bool) → eqb (get_or l p blank).handle h ≡ u
        → (if t then (if u then Some p else None) else None) ≡ Some i → (i < length l) × ((get_or l i blank).handle ≡ h)
    by true a true b g =
        let same : p ≡ i = cc in
        rw (← same) (ltb-true p (length l) a, eqb-true (get_or l p blank).handle h b)
    by true a false b g = absurd (let z : ◌≡◌ {A = ℕ} 0 1 = cc in omega arith)
    by false a u b g = absurd (let z : ◌≡◌ {A = ℕ} 0 1 = cc in omega arith)

pub strict : (m n : ℕ) → m ≤ n → (n ≡ m → ⊥) → m < n
strict m n h d = ⊎_elim (λ (q : m ≡ n). absurd (d (sym q))) (λ (q : m < n). q) (eq-or-lt_of_le h)

-- a handle that is not at its place is nowhere
absent_by : (h : ℕ) (l : List Slot) → Sorted l → (place_in h l < length l → (get_or l (place_in h l) blank).handle ≡ h → ⊥) → Absent h l
absent_by h l s d =
    let p : ℕ = place_in h l in
    record {
      differs =
          λ j b q.
          split (ltb j p)
          (λ t. omega (arith, place-under h l j (ltb-true j p t)))
          (λ t.
          let le : p ≤ j = ltb-false j p t in
          let in-l : p < length l = omega arith in
          let more : h < (get_or l p blank).handle = strict _ _ (place-over h l in-l) (d in-l) in
          omega (arith, sorted-le s p j le b));
    }

pub find-nothing : (h : ℕ) (l : List Slot) → Sorted l → find_in h l ≡ None → Absent h l
unfolding find_in
find-nothing h l s f =
    absent_by h l s
    (λ b q. let z : ◌≡◌ {A = ℕ} 0 1 = cc (find-yes l h (place_in h l) refl b q) in omega arith)

-- and the other way
pub find-there : (h : ℕ) (l : List Slot) (i : ℕ) → Sorted l → i < length l → (get_or l i blank).handle ≡ h → find_in h l ≡ Some i
find-there h l i s b q =
    sym (find-yes l h i (sym (place-there h l i s b q)) b q)

-- ---- One slot more, and one less

pub insert-length : (i : ℕ) (e : Slot) (l : List Slot) → length (insert_at i e l) ≡ suc (length l)
unfolding insert_at
insert-length zero e l = refl
insert-length (suc i) e [] = refl
insert-length (suc i) e (x ∷ l) = ap suc (insert-length i e l)

pub tail-sorted : {x : Slot} {l : List Slot} → Sorted (x ∷ l) → Sorted l
tail-sorted s = record { rises = λ i j h b. s.rises (suc i) (suc j) (omega arith) (omega arith) }
