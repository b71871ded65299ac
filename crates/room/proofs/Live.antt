-- The live rows, slot by slot: their handles rise, as those of a sound image do, so that a search finds the row that the image has for a
-- handle; and a push, a removal and a store of a slot do to the rows what an insert, a delete and an update do.
use Rattle.std.specs.Prelude.{Option, Some, None}
use mathlib.Core.Path.{◌≡◌, refl, sym, ap, ◌∙◌}
use mathlib.Core.Bool.{false}
use mathlib.Core.List.{List, [], ◌∷◌, ◌++◌}
use mathlib.Core.Option.{none, some}
use Prim.Native.Nat.{ℕ, zero, suc, ◌<◌}
use native.Mathlib.Omega.{arith}
use lib.Dec.{eqb}
use lib.ListN.{length, get_or, set, length-map}
use borrow.Author.Tests.{eq-eqb, ne_eqb}
use Rattle.meaning.specs.Covers.{Row, Image}
use Rattle.meaning.specs.RowOperations.{row_at, without, with_row}
use Rattle.meaning.specs.Processing.{State}
use Rattle.meaning.proofs.Lists.{clash}
use Rattle.meaning.specs.Made.{Rising, above, Sound}
use Rattle.meaning.proofs.Lookups.{row_at-none, row_at-head, row_at-skip}
use Rattle.meaning.proofs.Images.{make_all-sound}
use Rattle.slots.specs.declared.Slot.{Slot}
use Rattle.slots.specs.Slots.{table_at, remove_at, blank, Sorted, find_in}
use Rattle.slots.proofs.Order.{Absent, find_at, find-nothing, tail-sorted}
use Rattle.room.specs.Room.{LIVE, row_meant, rows_meant, live_rows}
use Rattle.room.specs.Represents.{Represents, Reached}

unfoldable rows : Unit {0}
unfolding row_meant rows_meant
rows = tt

-- ---- Rows that rise

rising-over : {high low : ℕ} (l : List Slot) → Rising high low (rows_meant l) → (j : ℕ) → j < length l → low < (get_or l j blank).handle
unfolding rows
rising-over [] r j h = absurd (omega arith)
rising-over (e ∷ l) (above a b p c) zero h = a
rising-over (e ∷ l) (above a b p c) (suc j) h = omega (arith, rising-over l c j (omega arith))

rising-rises : {high low : ℕ} (l : List Slot) → Rising high low (rows_meant l) → (i j : ℕ) → i < j → j < length l
    → (get_or l i blank).handle < (get_or l j blank).handle
unfolding rows
rising-rises [] r i j h b = absurd (omega arith)
rising-rises (e ∷ l) r i zero h b = absurd (omega arith)
rising-rises (e ∷ l) (above a d p c) zero (suc j) h b = rising-over l c j (omega arith)
rising-rises (e ∷ l) (above a d p c) (suc i) (suc j) h b = rising-rises l c i j (omega arith) (omega arith)

pub rising-sorted : {high low : ℕ} (l : List Slot) → Rising high low (rows_meant l) → Sorted l
rising-sorted l r = record { rises = rising-rises l r }

-- behind the first slot there is no other of its handle
tail-absent : {e : Slot} {l : List Slot} (h : ℕ) → Sorted (e ∷ l) → e.handle ≡ h → Absent h l
tail-absent h s q = record { differs = λ j b f. omega (arith, s.rises 0 (suc j) (omega arith) (omega arith)) }

absent-tail : {h : ℕ} {e : Slot} {l : List Slot} → Absent h (e ∷ l) → Absent h l
absent-tail a = record { differs = λ j b. a.differs (suc j) (omega arith) }

absent-head : {h : ℕ} {e : Slot} {l : List Slot} → Absent h (e ∷ l) → eqb e.handle h ≡ false
absent-head {h} {e} a = ne_eqb e.handle h (a.differs 0 (omega arith))

-- the first slot is another one than that at a later place
head-other : {e : Slot} {l : List Slot} (h i : ℕ) → Sorted (e ∷ l) → i < length l → (get_or l i blank).handle ≡ h → eqb e.handle h ≡ false
head-other {e} h i s b q = ne_eqb e.handle h (λ f. omega (arith, s.rises 0 (suc i) (omega arith) (omega arith)))

-- ---- The row of a handle

row_at-slot : (h i : ℕ) (l : List Slot) → Sorted l → i < length l → (get_or l i blank).handle ≡ h
    → row_at h (rows_meant l) ≡ some (row_meant (get_or l i blank))
unfolding rows
row_at-slot h i [] s b q = absurd (omega arith)
row_at-slot h zero (e ∷ l) s b q = row_at-head h (row_meant e) (rows_meant l) (eq-eqb e.handle h q)
row_at-slot h (suc i) (e ∷ l) s b q =
    row_at-skip h (row_meant e) (rows_meant l) (head-other h i s (omega arith) q) ∙ row_at-slot h i l (tail-sorted s) (omega arith) q

row_at-absent : (h : ℕ) (l : List Slot) → Absent h l → row_at h (rows_meant l) ≡ none
unfolding rows
row_at-absent h [] a = row_at-none h
row_at-absent h (e ∷ l) a = row_at-skip h (row_meant e) (rows_meant l) (absent-head a) ∙ row_at-absent h l (absent-tail a)

pub row_at-found : (h : ℕ) (l : List Slot) {i : ℕ} → Sorted l → find_in h l ≡ Some i → row_at h (rows_meant l) ≡ some (row_meant (get_or l i blank))
row_at-found h l {i} s f = let a = find_at h l f in row_at-slot h i l s a.0 a.1

pub row_at-nowhere : (h : ℕ) (l : List Slot) → Sorted l → find_in h l ≡ None → row_at h (rows_meant l) ≡ none
row_at-nowhere h l s f = row_at-absent h l (find-nothing h l s f)

-- a place at which a row stands
pub record Place (h : ℕ) (l : List Slot) (r : Row) : Type 0 where
  pub at : ℕ
  pub found : find_in h l ≡ Some at
  pub below : at < length l
  pub handle : (get_or l at blank).handle ≡ h
  pub means : row_meant (get_or l at blank) ≡ r

pub rows-length : (l : List Slot) → length (rows_meant l) ≡ length l
unfolding rows_meant
rows-length l = length-map l row_meant

-- ---- A push, a removal, a store

pub rows_pushed : (l : List Slot) (e : Slot) → rows_meant (l ++ (e ∷ [])) ≡ rows_meant l ++ (row_meant e ∷ [])
unfolding rows_meant
rows_pushed [] e = refl
rows_pushed (x ∷ l) e = ap (λ (rs : List Row). row_meant x ∷ rs) (rows_pushed l e)

without-absent : (h : ℕ) (l : List Slot) → Absent h l → without h (rows_meant l) ≡ rows_meant l
unfolding rows without
without-absent h [] a = refl
without-absent h (e ∷ l) a = rw (absent-head a, without-absent h l (absent-tail a))

pub rows-removed : (h i : ℕ) (l : List Slot) → Sorted l → i < length l → (get_or l i blank).handle ≡ h
    → rows_meant (remove_at i l) ≡ without h (rows_meant l)
unfolding rows without remove_at
rows-removed h i [] s b q = absurd (omega arith)
rows-removed h zero (e ∷ l) s b q = rw (eq-eqb e.handle h q) (sym (without-absent h l (tail-absent h s q)))
rows-removed h (suc i) (e ∷ l) s b q =
    rw (head-other h i s (omega arith) q) (ap (λ (rs : List Row). row_meant e ∷ rs) (rows-removed h i l (tail-sorted s) (omega arith) q))

with_row-absent : (h : ℕ) (new : Row) (l : List Slot) → Absent h l → with_row h new (rows_meant l) ≡ rows_meant l
unfolding rows with_row
with_row-absent h new [] a = refl
with_row-absent h new (e ∷ l) a = rw (absent-head a, with_row-absent h new l (absent-tail a))

pub rows-stored : (h i : ℕ) (new : Slot) (l : List Slot) → Sorted l → i < length l → (get_or l i blank).handle ≡ h
    → rows_meant (set l i new) ≡ with_row h (row_meant new) (rows_meant l)
unfolding rows with_row
rows-stored h i new [] s b q = absurd (omega arith)
rows-stored h zero new (e ∷ l) s b q = rw (eq-eqb e.handle h q, with_row-absent h (row_meant new) l (tail-absent h s q))
rows-stored h (suc i) new (e ∷ l) s b q = rw (head-other h i s (omega arith) q, rows-stored h i new l (tail-sorted s) (omega arith) q)

-- ---- In a room that represents a state

pub reached-sound : {start : Image} {s : State} → Reached start s → Sound s.image
reached-sound r = rw r.image (make_all-sound r.sound r.made)

module _ {start : Image} {s : State} {xs tables : List ℕ} (reached : Reached start s) (p : Represents xs tables s) where
  pub live-sorted : Sorted (table_at xs LIVE)
  unfolding live_rows
  live-sorted =
      let r : Rising s.image.next 0 (rows_meant (table_at xs LIVE)) = rw p.rows (reached-sound reached).rises in
      rising-sorted (table_at xs LIVE) r

  pub found-row : (h : ℕ) {i : ℕ} → find_in h (table_at xs LIVE) ≡ Some i
      → row_at h s.image.rows ≡ some (row_meant (get_or (table_at xs LIVE) i blank))
  unfolding live_rows
  found-row h f = ap (row_at h) (sym p.rows) ∙ row_at-found h (table_at xs LIVE) live-sorted f

  pub missing-row : (h : ℕ) → find_in h (table_at xs LIVE) ≡ None → row_at h s.image.rows ≡ none
  unfolding live_rows
  missing-row h f = ap (row_at h) (sym p.rows) ∙ row_at-nowhere h (table_at xs LIVE) live-sorted f

  pub row-found : (h : ℕ) {r : Row} → row_at h s.image.rows ≡ some r → Place h (table_at xs LIVE) r
  row-found h {r} q = go (find_in h (table_at xs LIVE)) refl
    where
      go : (f : Option ℕ) → find_in h (table_at xs LIVE) ≡ f → Place h (table_at xs LIVE) r
      go (Some i) f =
          let a = find_at h (table_at xs LIVE) f in
          let b = found-row h f in
          record { at = i; found = f; below = a.0; handle = a.1; means = cc }
      go None f = clash (missing-row h f) q

  pub row-missing : (h : ℕ) → row_at h s.image.rows ≡ none → find_in h (table_at xs LIVE) ≡ None
  row-missing h q = go (find_in h (table_at xs LIVE)) refl
    where
      go : (f : Option ℕ) → find_in h (table_at xs LIVE) ≡ f → find_in h (table_at xs LIVE) ≡ None
      go (Some i) f = clash q (found-row h f)
      go None f = f
