-- The row of a handle in an image: where it is found, and where an operation leaves it, for an operation moves only the row of its own
-- handle. In a sound image each handle has one row at most and none from the next handle on, so inserts are given new handles, rising.
use mathlib.Core.Path.{◌≡◌, refl, sym, ap, ◌∙◌, subst}
use mathlib.Core.Bool.{Bool, true, false}
use mathlib.Core.Logic.{◌≢◌}
use mathlib.Core.List.{List, [], ◌∷◌, ◌++◌, append_assoc}
use mathlib.Core.Option.{Option, none, some}
use Prim.Native.Nat.{ℕ, ◌≤◌, ◌<◌}
use native.Mathlib.Omega.{arith}
use lib.Dec.{eqb}
use borrow.Author.Tests.{eqb-true, eqb-false, eq-eqb, ne_eqb}
use Rattle.meaning.specs.Covers.{Row, Image}
use Rattle.meaning.specs.RowOperations.{RowOperation, inserts, deletes, updates, handle_of, row_at, without, with_row, make, make_all}
use Rattle.meaning.proofs.Lists.{clash, eqb-self}
use Rattle.meaning.specs.Base.{Each, no_element, an_element}
use Rattle.meaning.specs.Made.{Rising, no_row, above, Sound, Fits, insert_fits, delete_fits, update_fits, Made, more}
use Rattle.meaning.specs.Made.{Made.none as none_made}

-- ---- A lookup in a list with a head

pub data Look (h : ℕ) (x : Row) (xs : List Row) (o : Option Row) : Type 0 where
  head : x.handle ≡ h → o ≡ some x → Look h x xs o
  later : eqb x.handle h ≡ false → row_at h xs ≡ o → Look h x xs o

pub look : (h : ℕ) (x : Row) (xs : List Row) (o : Option Row) → row_at h (x ∷ xs) ≡ o → Look h x xs o
unfolding row_at
look h x xs o q = go (eqb x.handle h) refl
  where
    go : (b : Bool) → eqb x.handle h ≡ b → Look h x xs o
    go true e = head (eqb-true x.handle h e) (sym (rw e at q))
    go false e = later e (rw e at q)

-- where none is found, no row has the handle
pub row-none : (h : ℕ) (rs : List Row) → row_at h rs ≡ none → Each (λ x. x.handle ≢ h) rs
row-none h [] q = no_element
row-none h (x ∷ xs) q = go (look h x xs none q) (row-none h xs)
  where
    go : Look h x xs none → (row_at h xs ≡ none → Each (λ y. y.handle ≢ h) xs) → Each (λ y. y.handle ≢ h) (x ∷ xs)
    go (head e o) ih = clash refl o
    go (later e o) ih = an_element (eqb-false x.handle h e) (ih o)

pub row_at-none : (h : ℕ) → row_at h [] ≡ none
unfolding row_at
row_at-none h = refl

pub row_at-head : (h : ℕ) (x : Row) (xs : List Row) → eqb x.handle h ≡ true → row_at h (x ∷ xs) ≡ some x
unfolding row_at
row_at-head h x xs e = rw e

pub row_at-skip : (h : ℕ) (x : Row) (xs : List Row) → eqb x.handle h ≡ false → row_at h (x ∷ xs) ≡ row_at h xs
unfolding row_at
row_at-skip h x xs e = rw e

-- the row that is found has the handle asked for
pub found-handle : (h : ℕ) (r : Row) (rs : List Row) → row_at h rs ≡ some r → r.handle ≡ h
found-handle h r [] q = clash (row_at-none h) q
found-handle h r (x ∷ xs) q = go (found-handle h r xs) (look h x xs (some r) q)
  where
    go : (row_at h xs ≡ some r → r.handle ≡ h) → Look h x xs (some r) → r.handle ≡ h
    go ih (head e o) = let same : r ≡ x = cc in ap (λ (y : Row). y.handle) same ∙ e
    go ih (later e o) = ih o

-- what is so of each row is so of the row that is found
pub found-so : {P : Row → Type 0} {rs : List Row} (h : ℕ) (r : Row) → Each P rs → row_at h rs ≡ some r → P r
found-so h r no_element q = clash (row_at-none h) q
found-so {P} h r (an_element {x = x} {xs = xs} a rest) q = go (found-so h r rest) (look h x xs (some r) q)
  where
    go : (row_at h xs ≡ some r → P r) → Look h x xs (some r) → P r
    go ih (head e o) = subst P (cc) a
    go ih (later e o) = ih o

-- ---- Rows by rising handle

-- no row at or below low
pub row_at-low : {high low : ℕ} {rs : List Row} (h : ℕ) → Rising high low rs → h ≤ low → row_at h rs ≡ none
row_at-low h no_row l = row_at-none h
row_at-low h (above {r = r} {rs = rs} a b p c) l = row_at-skip h r rs (ne_eqb r.handle h (λ e. omega arith)) ∙ row_at-low h c (omega arith)

-- none at or above high
pub row_at-high : {high low : ℕ} {rs : List Row} (h : ℕ) → Rising high low rs → high ≤ h → row_at h rs ≡ none
row_at-high h no_row l = row_at-none h
row_at-high h (above {r = r} {rs = rs} a b p c) l = row_at-skip h r rs (ne_eqb r.handle h (λ e. omega arith)) ∙ row_at-high h c l

-- a handle is given once: behind its row there is no other of it
pub row_at-once : {high low : ℕ} {r : Row} {rs : List Row} → Rising high low (r ∷ rs) → row_at r.handle rs ≡ none
row_at-once {r = r} (above a b p c) = row_at-low r.handle c (omega arith)

pub row_at-next : {m : Image} → Sound m → (h : ℕ) → m.next ≤ h → row_at h m.rows ≡ none
row_at-next s h l = row_at-high h s.rises l

pub live_below : {high low : ℕ} {rs : List Row} (h : ℕ) (r : Row) → Rising high low rs → row_at h rs ≡ some r → h < high
live_below h r no_row q = clash (row_at-none h) q
live_below {high} h r (above {r = x} {rs = xs} a b p c) q = go (live_below h r c) (look h x xs (some r) q)
  where
    go : (row_at h xs ≡ some r → h < high) → Look h x xs (some r) → h < high
    go ih (head e o) = omega arith
    go ih (later e o) = ih o

-- ---- In two lists, one after the other

pub row_at-front : (h : ℕ) (r : Row) (xs ys : List Row) → row_at h xs ≡ some r → row_at h (xs ++ ys) ≡ some r
row_at-front h r [] ys q = clash (row_at-none h) q
row_at-front h r (x ∷ xs) ys q = go (row_at-front h r xs ys) (look h x xs (some r) q)
  where
    go : (row_at h xs ≡ some r → row_at h (xs ++ ys) ≡ some r) → Look h x xs (some r) → row_at h ((x ∷ xs) ++ ys) ≡ some r
    go ih (head e o) = row_at-head h x (xs ++ ys) (eq-eqb x.handle h e) ∙ sym o
    go ih (later e o) = row_at-skip h x (xs ++ ys) e ∙ ih o

pub row_at-back : (h : ℕ) (xs ys : List Row) → row_at h xs ≡ none → row_at h (xs ++ ys) ≡ row_at h ys
row_at-back h [] ys q = refl
row_at-back h (x ∷ xs) ys q = go (row_at-back h xs ys) (look h x xs none q)
  where
    go : (row_at h xs ≡ none → row_at h (xs ++ ys) ≡ row_at h ys) → Look h x xs none → row_at h ((x ∷ xs) ++ ys) ≡ row_at h ys
    go ih (head e o) = clash refl o
    go ih (later e o) = row_at-skip h x (xs ++ ys) e ∙ ih o

-- a row more, at the end
pub row_at-append-other : (h : ℕ) (r : Row) (xs : List Row) → eqb r.handle h ≡ false → row_at h (xs ++ (r ∷ [])) ≡ row_at h xs
row_at-append-other h r xs e = go (row_at h xs) refl
  where
    go : (o : Option Row) → row_at h xs ≡ o → row_at h (xs ++ (r ∷ [])) ≡ row_at h xs
    go none q = row_at-back h xs (r ∷ []) q ∙ row_at-skip h r [] e ∙ row_at-none h ∙ sym q
    go (some s) q = row_at-front h s xs (r ∷ []) q ∙ sym q

-- ---- Without a row

pub row_at-without : (h k : ℕ) (rs : List Row) → eqb k h ≡ true → row_at h (without k rs) ≡ none
unfolding row_at without
row_at-without h k [] e = refl
row_at-without h k (x ∷ xs) e = go (eqb x.handle k) refl (row_at-without h k xs e)
  where
    go : (b : Bool) → eqb x.handle k ≡ b → row_at h (without k xs) ≡ none → row_at h (without k (x ∷ xs)) ≡ none
    go true f ih = rw f ih
    go false f ih = rw f (row_at-skip h x (without k xs) (rw (← eqb-true k h e) f) ∙ ih)

pub row_at-without-other : (h k : ℕ) (rs : List Row) → eqb k h ≡ false → row_at h (without k rs) ≡ row_at h rs
unfolding row_at without
row_at-without-other h k [] e = refl
row_at-without-other h k (x ∷ xs) e = go (eqb x.handle k) refl (row_at-without-other h k xs e)
  where
    go : (b : Bool) → eqb x.handle k ≡ b → row_at h (without k xs) ≡ row_at h xs → row_at h (without k (x ∷ xs)) ≡ row_at h (x ∷ xs)
    go true f ih = rw (f, ih) (sym (row_at-skip h x xs (rw (eqb-true x.handle k f) e)))
    go false f ih = rw (f, ih)

-- ---- With another row in its place

pub row_at-with_row : (h : ℕ) (old new : Row) (rs : List Row) → new.handle ≡ h → row_at h rs ≡ some old
    → row_at h (with_row h new rs) ≡ some new
unfolding with_row
row_at-with_row h old new [] e q = clash (row_at-none h) q
row_at-with_row h old new (x ∷ xs) e q = go (row_at-with_row h old new xs e) (look h x xs (some old) q)
  where
    go : (row_at h xs ≡ some old → row_at h (with_row h new xs) ≡ some new) → Look h x xs (some old)
        → row_at h (with_row h new (x ∷ xs)) ≡ some new
    go ih (head f o) = rw (eq-eqb x.handle h f) (row_at-head h new (with_row h new xs) (eq-eqb new.handle h e))
    go ih (later f o) = rw f (row_at-skip h x (with_row h new xs) f ∙ ih o)

pub row_at-with_row-other : (h k : ℕ) (new : Row) (rs : List Row) → new.handle ≡ k → eqb k h ≡ false
    → row_at h (with_row k new rs) ≡ row_at h rs
unfolding row_at with_row
row_at-with_row-other h k new [] e n = refl
row_at-with_row-other h k new (x ∷ xs) e n = go (eqb x.handle k) refl (row_at-with_row-other h k new xs e n)
  where
    go : (b : Bool) → eqb x.handle k ≡ b → row_at h (with_row k new xs) ≡ row_at h xs → row_at h (with_row k new (x ∷ xs)) ≡ row_at h (x ∷ xs)
    go true f ih =
        rw f (row_at-skip h new (with_row k new xs) (rw e n) ∙ ih ∙ sym (row_at-skip h x xs (rw (eqb-true x.handle k f) n)))
    go false f ih = rw (f, ih)

-- ---- After an operation

-- another handle's row stays
pub row_at-other : {m : Image} {o : RowOperation} (h : ℕ) → Fits m o → eqb (handle_of o) h ≡ false
    → row_at h (make o m).rows ≡ row_at h m.rows
unfolding make handle_of
row_at-other {m} h (insert_fits {r = r} a b c d) e = row_at-append-other h r m.rows e
row_at-other {m} h (delete_fits {r = r} a) e = row_at-without-other h r.handle m.rows e
row_at-other {m} h (update_fits {old = old} {new = new} a b c) e = row_at-with_row-other h old.handle new m.rows b.same_handle e

pub row_at-inserted : (m : Image) (r : Row) → row_at r.handle m.rows ≡ none → row_at r.handle (make (inserts r) m).rows ≡ some r
unfolding make
row_at-inserted m r q = row_at-back r.handle m.rows (r ∷ []) q ∙ row_at-head r.handle r [] (eqb-self r.handle)

pub row_at-deleted : (m : Image) (r : Row) → row_at r.handle (make (deletes r) m).rows ≡ none
unfolding make
row_at-deleted m r = row_at-without r.handle r.handle m.rows (eqb-self r.handle)

pub row_at-updated : (m : Image) (mask : ℕ) (old new : Row) → new.handle ≡ old.handle → row_at old.handle m.rows ≡ some old
    → row_at old.handle (make (updates mask old new) m).rows ≡ some new
unfolding make
row_at-updated m mask old new e q = row_at-with_row old.handle old new m.rows e q

-- the next handle rises
pub next-rises : {m : Image} {o : RowOperation} → Fits m o → m.next ≤ (make o m).next
unfolding make
next-rises (insert_fits a b c d) = omega arith
next-rises (delete_fits a) = omega arith
next-rises (update_fits a b c) = omega arith

-- no further than a handle that is not given yet, unless it is given now
pub next-other : {m : Image} {o : RowOperation} (h : ℕ) → Fits m o → eqb (handle_of o) h ≡ false → m.next ≤ h → (make o m).next ≤ h
unfolding make handle_of
next-other h (insert_fits {r = r} a b c d) n l = let x = eqb-false r.handle h n in omega arith
next-other h (delete_fits a) n l = l
next-other h (update_fits a b c) n l = l

-- ---- One stretch after another

pub make_all-append : (xs ys : List RowOperation) (m : Image) → make_all (xs ++ ys) m ≡ make_all ys (make_all xs m)
unfolding make_all
make_all-append [] ys m = refl
make_all-append (o ∷ xs) ys m = make_all-append xs ys (make o m)

pub made-front : {m : Image} (xs ys : List RowOperation) → Made m (xs ++ ys) → Made m xs
made-front [] ys k = none_made
made-front {m = m} (o ∷ xs) ys (more f k) = more f (made-front {m = make o m} xs ys k)

pub made-back : {m : Image} (xs ys : List RowOperation) → Made m (xs ++ ys) → Made (make_all xs m) ys
unfolding make_all
made-back [] ys k = k
made-back {m = m} (o ∷ xs) ys (more f k) = made-back {m = make o m} xs ys k

pub made-append : {m : Image} {xs ys : List RowOperation} → Made m xs → Made (make_all xs m) ys → Made m (xs ++ ys)
unfolding make_all
made-append none_made l = l
made-append (more f k) l = more f (made-append k l)

-- ---- Handles are given once, rising

pub all-next-rises : {m : Image} {os : List RowOperation} → Made m os → m.next ≤ (make_all os m).next
unfolding make_all
all-next-rises none_made = omega arith
all-next-rises (more f k) = let a = next-rises f in let b = all-next-rises k in omega arith

inserted-handle : {m : Image} {r : Row} {os : List RowOperation} → Made m (inserts r ∷ os) → r.handle ≡ m.next
inserted-handle (more (insert_fits a b c d) k) = a

-- no insert is given a handle of before
pub given-fresh : {m : Image} (xs : List RowOperation) (r : Row) (ys : List RowOperation) → Made m (xs ++ (inserts r ∷ ys))
    → m.next ≤ r.handle
given-fresh xs r ys k =
    let a = all-next-rises (made-front xs (inserts r ∷ ys) k) in
    let b = inserted-handle (made-back xs (inserts r ∷ ys) k) in
    omega arith

-- nor that of an earlier insert
pub given-once : {m : Image} (xs : List RowOperation) (r : Row) (ys : List RowOperation) (s : Row) (zs : List RowOperation)
    → Made m (xs ++ (inserts r ∷ ys) ++ (inserts s ∷ zs)) → r.handle < s.handle
unfolding make
given-once xs r ys s zs k = go (made-back xs ((inserts r ∷ ys) ++ (inserts s ∷ zs)) (rw append_assoc at k))
  where
    go : {m : Image} → Made m (inserts r ∷ (ys ++ (inserts s ∷ zs))) → r.handle < s.handle
    go (more (insert_fits a b c d) k) = let l = given-fresh ys s zs k in omega arith
