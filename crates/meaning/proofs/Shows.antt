-- Transition tables: an entry of a net effect gives at most one row, of its own handle, and each handle has one entry; so the rows that are
-- gathered are those that the entries of their handles give, by rising handle.
use Rattle.std.specs.Prelude.{if◌then◌else◌}
use mathlib.Core.Path.{◌≡◌, refl, sym, ap, ◌∙◌, subst}
use mathlib.Core.Logic.Iff
use mathlib.Core.Logic.{◌↔◌}
use mathlib.Core.Bool.{Bool, true, false}
use mathlib.Core.List.{List, [], ◌∷◌, ◌++◌}
use mathlib.Core.Option.{Option, none, some}
use Prim.Native.Nat.{ℕ, suc, ◌≤◌}
use native.Mathlib.Omega.{arith}
use lib.Dec.{eqb}
use borrow.Author.Tests.{eqb-true, eq-eqb}
use Rattle.meaning.specs.Base.{maybe, before, gather, ◌∈◌, first, later, Each, no_element, an_element}
use Rattle.meaning.specs.Covers.{Row, Rule, Image}
use Rattle.meaning.specs.RowOperations.{RowOperation, inserts, deletes, updates, row_at, make_all, Effect, NetEffect, nothing, inserted}
use Rattle.meaning.specs.RowOperations.{deleted, updated, net, named, net_effect, effect_at}
use Rattle.meaning.specs.Processing.{Event, considered}
use Rattle.meaning.specs.Processing.TransitionTables.{own_table, meets, own_row, deleted_row, old_row, live_row, inserted_row, new_row}
use Rattle.meaning.specs.Processing.TransitionTables.{transition}
use Rattle.meaning.specs.Trace.{operations_in, since_last, deleted_in, from_outside, masks_on, Differs, stays, comes, goes, changes}
use Rattle.meaning.specs.Trace.{Consideration}
use Rattle.meaning.specs.Made.{Sound, Made}
use Rattle.meaning.specs.Runs.{Accepted, ending_of, waits_for, image_after}
use Rattle.meaning.specs.Theorems.Shows.{Meets, RisesFrom, ShowsRows, Shows}
use Rattle.meaning.proofs.Lists.{clash, same_some}
use Rattle.meaning.proofs.Lookups.{found-handle, make_all-append, made-front, made-back}
use Rattle.meaning.proofs.Images.{make_all-sound}
use Rattle.meaning.proofs.NetEffects.{Listed, no_entry, one_entry, net_effect-listed, says-net}
use Rattle.meaning.proofs.Lives.{net-outside, differs}
use Rattle.meaning.proofs.OwnTable.{entries-each}
use Rattle.meaning.proofs.Traces.{operations-append, until-last}
use Rattle.meaning.proofs.StepsFit.{RowOf, of_nothing, of_inserted, of_deleted, of_updated, gather-each}
use Rattle.meaning.proofs.RunsFit.{run_sound, made_at, sound-since, made-since}
use Rattle.meaning.proofs.Lawful.{is_lawful}
use Rattle.meaning.proofs.Meets.{meets-column}

-- ---- The rows that a net effect gives

pub each_in : {A : Type 0} {P : A → Type 0} {xs : List A} → Each P xs → (x : A) → x ∈ xs → P x
each_in no_element x i = elim i [ ]
each_in {P = P} (an_element p ps) x (first e) = subst P (sym e) p
each_in (an_element p ps) x (later i) = each_in ps x i

eased : {low low' : ℕ} (xs : List Row) → low' ≤ low → RisesFrom low xs → RisesFrom low' xs
eased [] l r = tt
eased (x ∷ xs) l (a, r) = (omega arith, r)

-- f gives no row where there is no effect, and of a stretch's effect on a handle a row with that handle
module _ (f : ℕ → Effect → Option Row) (empty : (h : ℕ) → f h nothing ≡ none) (os : List RowOperation)
    (own : (h : ℕ) (x : Row) → f h (net h os) ≡ some x → x.handle ≡ h) where
  abbrev of_entry : ℕ × Effect → Option Row
  of_entry p = f p.0 p.1

  abbrev Own : ℕ × Effect → Type 0
  Own p = (x : Row) → of_entry p ≡ some x → x.handle ≡ p.0

  given_by : (x : Row) → x ∈ gather of_entry (net_effect os) → f x.handle (net x.handle os) ≡ some x
  unfolding net_effect
  given_by x i =
      each_in (gather-each of_entry (λ p y so q. so y q)
      (entries-each {P = λ p. (y : Row) → of_entry p ≡ some y → f y.handle (net y.handle os) ≡ some y} (λ h. net h os) (named os)
      (λ h y q. subst (λ (k : ℕ). f k (net k os) ≡ some y) (sym (own h y q)) q))) x i

  gives : (n : NetEffect) (x : Row) → f x.handle (effect_at x.handle n) ≡ some x → x ∈ gather of_entry n
  unfolding effect_at
  gives [] x q = clash (empty x.handle) q
  gives (p ∷ ps) x q = go (eqb p.0 x.handle) refl q (gives ps x)
    where
      past : (o : Option Row) → x ∈ gather of_entry ps → x ∈ before o (gather of_entry ps)
      past none i = i
      past (some y) i = later i

      go : (t : Bool) → eqb p.0 x.handle ≡ t → f x.handle (if t then p.1 else effect_at x.handle ps) ≡ some x
          → (f x.handle (effect_at x.handle ps) ≡ some x → x ∈ gather of_entry ps) → x ∈ before (of_entry p) (gather of_entry ps)
      go true e q ih =
          let g : of_entry p ≡ some x = ap (λ (h : ℕ). f h p.1) (eqb-true p.0 x.handle e) ∙ q in
          rw g (first refl)
      go false e q ih = past (of_entry p) (ih q)

  shown : (x : Row) → (x ∈ gather of_entry (net_effect os)) ↔ (f x.handle (effect_at x.handle (net_effect os)) ≡ some x)
  shown x = (λ i. ap (f x.handle) (says-net x.handle os) ∙ given_by x i, gives (net_effect os) x)

  rises : RisesFrom 0 (gather of_entry (net_effect os))
  unfolding net_effect
  rises = go (net_effect-listed os) (entries-each {P = Own} (λ h. net h os) (named os) own)
    where
      go : {low : ℕ} {n : NetEffect} → Listed low n → Each Own n → RisesFrom low (gather of_entry n)
      go no_entry no_element = tt
      go {low} (one_entry {p = p} {ps = ps} a b c) (an_element o os) = on (of_entry p) refl (go c os)
        where
          on : (w : Option Row) → of_entry p ≡ w → RisesFrom (suc p.0) (gather of_entry ps) → RisesFrom low (before w (gather of_entry ps))
          on none e ih = eased (gather of_entry ps) (omega arith) ih
          on (some x) e ih = let s : x.handle ≡ p.0 = o x e in (omega arith, rw s ih)

-- ---- What each table gives of an effect e on a handle h

module _ (r : Rule) where
  own-row : (x y : Row) → (own_row r x ≡ some y) ↔ ((x ≡ y) × (y.table ≡ r.table))
  unfolding own_row own_table
  own-row x y = (go (eqb x.table r.table) refl, λ k. rw (k.0, eq-eqb y.table r.table k.1))
    where
      go : (b : Bool) → eqb x.table r.table ≡ b → (if b then some x else none) ≡ some y → (x ≡ y) × (y.table ≡ r.table)
      go true e q = let s = same_some q in (s, ap (λ (z : Row). z.table) (sym s) ∙ eqb-true x.table r.table e)
      go false e q = clash refl q

  met : (m : ℕ) (o : Option Row) (y : Row) → ((if meets r m then o else none) ≡ some y) ↔ (Meets r m × (o ≡ some y))
  met m o y = (go (meets r m) refl, λ k. rw ((meets-column r m).1 k.0) k.1)
    where
      go : (b : Bool) → meets r m ≡ b → (if b then o else none) ≡ some y → Meets r m × (o ≡ some y)
      go true e q = ((meets-column r m).0 e, q)
      go false e q = clash refl q

  is-deleted : (e : Effect) (y : Row) → (deleted_row r e ≡ some y) ↔ ((e ≡ deleted y) × (y.table ≡ r.table))
  unfolding deleted_row
  is-deleted e y = (go e, λ k. rw k.0 ((own-row y y).1 (refl, k.1)))
    where
      go : (e : Effect) → deleted_row r e ≡ some y → (e ≡ deleted y) × (y.table ≡ r.table)
      go nothing q = clash refl q
      go (inserted t) q = clash refl q
      go (deleted x) q = let s = (own-row x y).0 q in (ap deleted s.0, s.1)
      go (updated m x) q = clash refl q

  is-old : (e : Effect) (y : Row) → (old_row r e ≡ some y) ↔ (((m : ℕ) × (e ≡ updated m y) × Meets r m) × (y.table ≡ r.table))
  unfolding old_row
  is-old e y = (go e, λ ((m, q, k), t). rw q ((met m (own_row r y) y).1 (k, (own-row y y).1 (refl, t))))
    where
      go : (e : Effect) → old_row r e ≡ some y → ((m : ℕ) × (e ≡ updated m y) × Meets r m) × (y.table ≡ r.table)
      go nothing q = clash refl q
      go (inserted t) q = clash refl q
      go (deleted x) q = clash refl q
      go (updated m x) q =
          let k = (met m (own_row r x) y).0 q in let s = (own-row x y).0 k.1 in ((m, ap (updated m) s.0, k.0), s.1)

  module _ (rows : List Row) (h : ℕ) where
    live-row : (y : Row) → (live_row r rows h ≡ some y) ↔ ((row_at h rows ≡ some y) × (y.table ≡ r.table))
    unfolding live_row
    live-row y = (go (row_at h rows) refl, λ k. rw k.0 ((own-row y y).1 (refl, k.1)))
      where
        go : (o : Option Row) → row_at h rows ≡ o → maybe o none (own_row r) ≡ some y → (row_at h rows ≡ some y) × (y.table ≡ r.table)
        go none e q = clash refl q
        go (some x) e q = let s = (own-row x y).0 q in (e ∙ ap some s.0, s.1)

    is_inserted : (e : Effect) (y : Row) → (inserted_row r rows h e ≡ some y)
        ↔ (((t : ℕ) × (e ≡ inserted t)) × (row_at h rows ≡ some y) × (y.table ≡ r.table))
    unfolding inserted_row
    is_inserted e y = (go e, λ ((t, q), l, o). rw q ((live-row y).1 (l, o)))
      where
        go : (e : Effect) → inserted_row r rows h e ≡ some y → ((t : ℕ) × (e ≡ inserted t)) × (row_at h rows ≡ some y) × (y.table ≡ r.table)
        go nothing q = clash refl q
        go (inserted t) q = let s = (live-row y).0 q in ((t, refl), s.0, s.1)
        go (deleted x) q = clash refl q
        go (updated m x) q = clash refl q

    is-new : (e : Effect) (y : Row) → (new_row r rows h e ≡ some y)
        ↔ (((old : Row) × ((m : ℕ) × (e ≡ updated m old) × Meets r m)) × (row_at h rows ≡ some y) × (y.table ≡ r.table))
    unfolding new_row
    is-new e y = (go e, λ ((old, (m, q, k)), l, o). rw q ((met m (live_row r rows h) y).1 (k, (live-row y).1 (l, o))))
      where
        go : (e : Effect) → new_row r rows h e ≡ some y
            → ((old : Row) × ((m : ℕ) × (e ≡ updated m old) × Meets r m)) × (row_at h rows ≡ some y) × (y.table ≡ r.table)
        go nothing q = clash refl q
        go (inserted t) q = clash refl q
        go (deleted x) q = clash refl q
        go (updated m x) q =
            let k = (met m (live_row r rows h) y).0 q in let s = (live-row y).0 k.1 in ((x, (m, refl, k.0)), s.0, s.1)

-- ---- The tables of a stretch that fits

-- a handle's deleted row has that handle
deleted-handle : (h : ℕ) (r : Row) (os : List RowOperation) → r.handle ≡ h → (deleted_in h r os).handle ≡ h
unfolding deleted_in
deleted-handle h r [] e = e
deleted-handle h r (inserts s ∷ os) e = deleted-handle h r os e
deleted-handle h r (deletes s ∷ os) e = go (eqb s.handle h) refl (deleted-handle h r os e)
  where
    go : (b : Bool) → eqb s.handle h ≡ b → (deleted_in h r os).handle ≡ h → (if b then s else deleted_in h r os).handle ≡ h
    go true t ih = eqb-true s.handle h t
    go false t ih = ih
deleted-handle h r (updates m old new ∷ os) e = deleted-handle h r os e

of-deleted : {P : Row → Type 0} {x : Row} → RowOf P (deleted x) → P x
of-deleted (of_deleted p) = p

of-updated : {P : Row → Type 0} {n : ℕ} {x : Row} → RowOf P (updated n x) → P x
of-updated (of_updated p) = p

-- an inserted handle is inserted into the table of its live row
into-table : {e : Effect} {s l : Option Row} {t : ℕ} {x : Row} → Differs e s l → e ≡ inserted t → l ≡ some x → e ≡ inserted x.table
into-table stays q p = absurd (let z : ◌≡◌ {A = ℕ} 0 1 = cc in omega arith)
into-table (comes {e = y}) q p = ap (λ (z : Row). inserted z.table) (same_some p)
into-table goes q p = absurd (let z : ◌≡◌ {A = ℕ} 0 1 = cc in omega arith)
into-table (changes o) q p = absurd (let z : ◌≡◌ {A = ℕ} 0 1 = cc in omega arith)

module _ {m : Image} (r : Rule) (os : List RowOperation) (s : Sound m) (k : Made m os) where
  -- the row of an effect has the handle of the effect
  row-handle : (h : ℕ) → RowOf (λ x. x.handle ≡ h) (net h os)
  unfolding from_outside
  row-handle h = rw (net-outside s k h) (go (row_at h m.rows) refl (row_at h (make_all os m).rows) (masks_on h os))
    where
      go : (a : Option Row) → row_at h m.rows ≡ a → (b : Option Row) (masks : Option ℕ)
          → RowOf (λ x. x.handle ≡ h) (from_outside a b masks (λ x. deleted_in h x os))
      go none q none masks = of_nothing
      go none q (some e) masks = of_inserted
      go (some x) q none masks = of_deleted (deleted-handle h x os (found-handle h x m.rows q))
      go (some x) q (some e) none = of_nothing
      go (some x) q (some e) (some n) = of_updated (found-handle h x m.rows q)

  abbrev rows : List Row
  rows = (make_all os m).rows

  own-inserted : (h : ℕ) (x : Row) → inserted_row r rows h (net h os) ≡ some x → x.handle ≡ h
  own-inserted h x q = found-handle h x rows ((is_inserted r rows h (net h os) x).0 q).1

  own_new : (h : ℕ) (x : Row) → new_row r rows h (net h os) ≡ some x → x.handle ≡ h
  own_new h x q = found-handle h x rows ((is-new r rows h (net h os) x).0 q).1

  own-deleted : (h : ℕ) (x : Row) → deleted_row r (net h os) ≡ some x → x.handle ≡ h
  own-deleted h x q = of-deleted (rw ((is-deleted r (net h os) x).0 q).0 at (row-handle h))

  own_old : (h : ℕ) (x : Row) → old_row r (net h os) ≡ some x → x.handle ≡ h
  own_old h x q = of-updated (rw ((is-old r (net h os) x).0 q).0.1 at (row-handle h))

  inserted-into : (x : Row) (t : ℕ) → effect_at x.handle (net_effect os) ≡ inserted t → row_at x.handle rows ≡ some x
      → effect_at x.handle (net_effect os) ≡ inserted x.table
  inserted-into x t q l = rw says-net (into-table (differs s k x.handle) (rw says-net at q) l)

  shows-stretch : ShowsRows r (net_effect os) rows (transition r rows (net_effect os))
  unfolding transition inserted_row new_row deleted_row old_row
  shows-stretch =
      let said : Row → Effect = λ x. effect_at x.handle (net_effect os) in
      record {
        inserted_rows = λ x. Iff.trans (shown (inserted_row r rows) (λ h. refl) os own-inserted x)
            (Iff.trans (is_inserted r rows x.handle (said x) x)
            (λ ((t, q), l, e). (inserted-into x t q l, l, e), λ (q, l, e). ((x.table, q), l, e)));
        deleted_rows = λ x. Iff.trans (shown (λ h. deleted_row r) (λ h. refl) os own-deleted x) (is-deleted r (said x) x);
        new_updated = λ x. Iff.trans (shown (new_row r rows) (λ h. refl) os own_new x) (is-new r rows x.handle (said x) x);
        old_updated = λ x. Iff.trans (shown (λ h. old_row r) (λ h. refl) os own_old x) (is-old r (said x) x);
        rise =
            an_element (rises (inserted_row r rows) (λ h. refl) os own-inserted)
            (an_element (rises (λ h. deleted_row r) (λ h. refl) os own-deleted)
            (an_element (rises (new_row r rows) (λ h. refl) os own_new)
            (an_element (rises (λ h. old_row r) (λ h. refl) os own_old) no_element)));
      }

-- ---- At a consideration

module _ {image book log : List ℕ} (a : Accepted image book log) where
  -- what is so of the net effect of a stretch that fits, and of the rows at its end, is so of what a rule is given, and of the rows of then
  pub at-consideration : (P : NetEffect → List Row → Type 0)
      → ((m : Image) (os : List RowOperation) → Sound m → Made m os → P (net_effect os) (make_all os m).rows)
      → (c : Consideration (ending_of a)) → P c.given (image_after a c.before).rows
  unfolding image_after waits_for
  at-consideration P so c =
      let j = c.number in
      let rest = considered j c.given ∷ c.after in
      rw ((is_lawful a).given c, ← until-last j c.before, make_all-append)
      (so _ (since_last j c.before) (sound-since a c.before rest c.place j) (made-since a c.before rest c.place j))

  differs-since : (c : Consideration (ending_of a)) (past stretch : List Event) → c.before ≡ past ++ stretch
      → operations_in stretch ≡ since_last c.number c.before → (h : ℕ)
      → Differs (effect_at h c.given) (row_at h (image_after a past).rows) (row_at h (image_after a c.before).rows)
  unfolding image_after waits_for
  differs-since c past stretch q e h =
      let xs = operations_in past in
      let ys = operations_in stretch in
      let rest = considered c.number c.given ∷ c.after in
      let fits : Made a.start (xs ++ ys) = rw (← operations-append past stretch, ← q) (made_at a c.before rest c.place) in
      rw ((is_lawful a).given c, ← e, says-net, q, operations-append, make_all-append)
      (differs (make_all-sound (run_sound a) (made-front xs ys fits)) (made-back xs ys fits) h)

  pub shows : Shows a
  shows =
      record {
        rows = λ c r q. at-consideration (λ n rows. ShowsRows r n rows (transition r rows n)) (λ m os s k. shows-stretch r os s k) c;
        since = differs-since;
      }
