-- Sound images stay sound: an operation that fits a sound image leaves a sound image. An insert puts the next handle at the end, a delete
-- leaves out a row, an update keeps the handle, so the handles still rise.
use Rattle.std.specs.Prelude.{if◌then◌else◌}
use mathlib.Core.Path.{◌≡◌, refl, sym, ◌∙◌}
use mathlib.Core.Bool.{Bool, true, false}
use mathlib.Core.List.{List, [], ◌∷◌, ◌++◌}
use Prim.Native.Nat.{ℕ, suc, ◌≤◌, ◌<◌}
use native.Mathlib.Omega.{arith}
use lib.Dec.{eqb}
use lib.ListN.{length, length-append, length-map}
use borrow.Author.Tests.{eqb-true}
use Rattle.meaning.specs.Base.{Each, no_element, an_element}
use Rattle.meaning.specs.Covers.{Row, Image}
use Rattle.meaning.specs.RowOperations.{RowOperation, without, with_row, make, make_all}
use Rattle.meaning.specs.Made.{Proper, Rising, no_row, above, Sound, Fits, insert_fits, delete_fits, update_fits, Made}
use Rattle.meaning.specs.Made as Of

-- ---- Rows that rise

pub lower : {high low low' : ℕ} {rs : List Row} → low' ≤ low → Rising high low rs → Rising high low' rs
lower h no_row = no_row
lower {low' = low'} h (above {r = r} a b p c) = above {low = low'} {r = r} (omega arith) b p c

pub rising-proper : {high low : ℕ} {rs : List Row} → Rising high low rs → Each Proper rs
rising-proper no_row = no_element
rising-proper (above a b p c) = an_element p (rising-proper c)

-- ---- Rows after an operation

without-rises : {high low : ℕ} {rs : List Row} (h : ℕ) → Rising high low rs → Rising high low (without h rs)
unfolding without
without-rises h no_row = no_row
without-rises {high} {low} h (above {r = r} {rs = rs} a b p c) = go (eqb r.handle h) refl (without-rises h c)
  where
    go : (t : Bool) → eqb r.handle h ≡ t → Rising high r.handle (without h rs) → Rising high low (without h (r ∷ rs))
    go true e ih = rw e (lower (omega arith) ih)
    go false e ih = rw e (above {r = r} a b p ih)

pub without-length : (h : ℕ) (rs : List Row) → length (without h rs) ≤ length rs
unfolding without
without-length h [] = omega arith
without-length h (r ∷ rs) = go (eqb r.handle h) refl (without-length h rs)
  where
    go : (t : Bool) → eqb r.handle h ≡ t → length (without h rs) ≤ length rs → length (without h (r ∷ rs)) ≤ length (r ∷ rs)
    go true e ih = rw e (omega arith)
    go false e ih = rw e (omega arith)

with_row-rises : {high low : ℕ} {rs : List Row} (h : ℕ) (new : Row) → new.handle ≡ h → Proper new → Rising high low rs
    → Rising high low (with_row h new rs)
unfolding with_row
with_row-rises h new s p no_row = no_row
with_row-rises {high} {low} h new s p (above {r = r} {rs = rs} a b q c) = go (eqb r.handle h) refl (with_row-rises h new s p c)
  where
    go : (t : Bool) → eqb r.handle h ≡ t → Rising high r.handle (with_row h new rs) → Rising high low (with_row h new (r ∷ rs))
    go true e ih =
        let f : r.handle ≡ new.handle = eqb-true r.handle h e ∙ sym s in
        rw e (above {low = low} {r = new} (omega arith) (omega arith) p (lower (omega arith) ih))
    go false e ih = rw e (above {r = r} a b q ih)

pub with_row-length : (h : ℕ) (new : Row) (rs : List Row) → length (with_row h new rs) ≡ length rs
unfolding with_row
with_row-length h new rs = length-map rs (λ r. if eqb r.handle h then new else r)

appended-rises : {high low : ℕ} {rs : List Row} (new : Row) → new.handle ≡ high → low < high → Proper new → Rising high low rs
    → Rising (suc high) low (rs ++ (new ∷ []))
appended-rises {low = low} new s l p no_row = above {low = low} {r = new} (omega arith) (omega arith) p no_row
appended-rises new s l p (above {r = r} a b q c) = above {r = r} a (omega arith) q (appended-rises new s b p c)

-- ---- Sound images stay sound

pub make-sound : {m : Image} {o : RowOperation} → Sound m → Fits m o → Sound (make o m)
unfolding make
make-sound {m} s (insert_fits {r = r} e p room left) =
    let up = s.some_next in
    record {
      some_next = omega arith;
      next_fits = omega arith;
      rows_fit = simp length-append (omega arith);
      rises = appended-rises r e (omega arith) p s.rises;
    }
make-sound {m} s (delete_fits {r = r} q) =
    record {
      some_next = s.some_next;
      next_fits = s.next_fits;
      rows_fit = let l = without-length r.handle m.rows in let k = s.rows_fit in omega arith;
      rises = without-rises r.handle s.rises;
    }
make-sound {m} s (update_fits {old = old} {new = new} q d p) =
    record {
      some_next = s.some_next;
      next_fits = s.next_fits;
      rows_fit = rw (with_row-length old.handle new m.rows) s.rows_fit;
      rises = with_row-rises old.handle new d.same_handle p s.rises;
    }

pub make_all-sound : {m : Image} {os : List RowOperation} → Sound m → Made m os → Sound (make_all os m)
unfolding make_all
make_all-sound s Of.none = s
make_all-sound s (Of.more f g) = make_all-sound (make-sound s f) g
