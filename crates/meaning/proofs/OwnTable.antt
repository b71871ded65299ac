-- What a net effect says of one table: by rising handle still, and of other tables a rule is not woken, nor does it draw a row.
use Rattle.std.specs.Prelude.{if◌then◌else◌}
use mathlib.Core.Path.{◌≡◌, refl}
use mathlib.Core.Bool.{Bool, true, false, ◌&&◌}
use mathlib.Core.List.{List, [], ◌∷◌}
use mathlib.Core.Option.{Option, none, some}
use Prim.Native.Nat.{ℕ, suc, ◌≤◌}
use native.Mathlib.Omega.{arith}
use lib.Dec.{eqb}
use lib.ListN.{length}
use Rattle.meaning.specs.Base.{bit, any, gather, Each, no_element, an_element}
use Rattle.meaning.specs.Covers.{Row, Rule, Image}
use Rattle.meaning.specs.RowOperations.{RowOperation, row_at, make_all, Effect, nothing, on_table, own_of}
use Rattle.meaning.specs.RowOperations.{inserted, deleted, updated, NetEffect, net, named, entry, entries, net_effect}
use Rattle.meaning.specs.Processing.TransitionTables.{own_table, meets, wakes, own_row, deleted_row, old_row, live_row}
use Rattle.meaning.specs.Processing.TransitionTables.{inserted_row, new_row, transition}
use Rattle.meaning.specs.Trace.{Differs, stays, comes, goes, changes}
use Rattle.meaning.specs.Made.{Sound, Made}
use Rattle.meaning.proofs.NetEffects.{Listed, no_entry, one_entry}
use Rattle.meaning.proofs.Lives.{differs}

-- ---- Its shape

pub own-none : (t : ℕ) → own_of t [] ≡ []
unfolding own_of
own-none t = refl

pub own-few : (t : ℕ) (es : NetEffect) → length (own_of t es) ≤ length es
unfolding own_of
own-few t [] = omega arith
own-few t (p ∷ ps) = go (on_table t p.1) refl (own-few t ps)
  where
    go : (b : Bool) → on_table t p.1 ≡ b → length (own_of t ps) ≤ length ps → length (own_of t (p ∷ ps)) ≤ length (p ∷ ps)
    go true e ih = rw e (omega arith)
    go false e ih = rw e (omega arith)

own-above : {low low' : ℕ} (t : ℕ) {es : NetEffect} → low' ≤ low → Listed low es → Listed low' (own_of t es)
unfolding own_of
own-above t l no_entry = no_entry
own-above {low' = low'} t l (one_entry {p = p} {ps = ps} a b c) =
    go (on_table t p.1) refl (own-above t (omega arith) c) (own-above t (omega arith) c)
  where
    go : (d : Bool) → on_table t p.1 ≡ d → Listed (suc p.0) (own_of t ps) → Listed low' (own_of t ps) → Listed low' (own_of t (p ∷ ps))
    go true e ih jh = let d : low' ≤ p.0 = omega arith in rw e (one_entry {p = p} d b ih)
    go false e ih jh = rw e jh

pub own-listed : {low : ℕ} (t : ℕ) {es : NetEffect} → Listed low es → Listed low (own_of t es)
own-listed t l = own-above t (omega arith) l

-- ---- What wakes a rule

and_none : (a b : Bool) → b ≡ false → a && b ≡ false
and_none true b h = h
and_none false b h = refl

none-and : (a b : Bool) → a ≡ false → a && b ≡ false
none-and a b h = rw h

-- of other tables it is not woken
wakes-own : (r : Rule) (e : Effect) → on_table r.table e ≡ false → wakes r e ≡ false
unfolding on_table own_table wakes
wakes-own r nothing n = refl
wakes-own r (inserted t) n = and_none (bit r.triggers 0) (own_table r t) n
wakes-own r (deleted x) n = and_none (bit r.triggers 1) (own_table r x.table) n
wakes-own r (updated m x) n =
    none-and (bit r.triggers 2 && own_table r x.table) (meets r m) (and_none (bit r.triggers 2) (own_table r x.table) n)

-- what wakes it is on its own table
pub own-wakes : (r : Rule) (es : NetEffect) → any (λ p. wakes r p.1) (own_of r.table es) ≡ any (λ p. wakes r p.1) es
unfolding own_of
own-wakes r [] = refl
own-wakes r (p ∷ ps) = go (on_table r.table p.1) refl (own-wakes r ps)
  where
    go : (b : Bool) → on_table r.table p.1 ≡ b → any (λ p. wakes r p.1) (own_of r.table ps) ≡ any (λ p. wakes r p.1) ps
        → any (λ p. wakes r p.1) (own_of r.table (p ∷ ps)) ≡ any (λ p. wakes r p.1) (p ∷ ps)
    go true e ih = rw (e, ih)
    go false e ih = rw (e, wakes-own r p.1 e) ih

-- ---- The rows that are drawn

-- of a part no more rows are drawn than of all
pub own-gather : (t : ℕ) (f : ℕ × Effect → Option Row) (es : NetEffect) → length (gather f (own_of t es)) ≤ length (gather f es)
unfolding own_of
own-gather t f [] = omega arith
own-gather t f (p ∷ ps) = go (on_table t p.1) refl (f p) refl (own-gather t f ps)
  where
    go : (b : Bool) → on_table t p.1 ≡ b → (o : Option Row) → f p ≡ o → length (gather f (own_of t ps)) ≤ length (gather f ps)
        → length (gather f (own_of t (p ∷ ps))) ≤ length (gather f (p ∷ ps))
    go true e none q ih = rw (e, q) ih
    go true e (some r) q ih = rw (e, q) (omega arith)
    go false e none q ih = rw (e, q) ih
    go false e (some r) q ih = rw (e, q) (omega arith)

-- where none is drawn of other tables, the same are drawn
gather-own : (t : ℕ) (f : ℕ × Effect → Option Row) {es : NetEffect} → Each (λ p. on_table t p.1 ≡ false → f p ≡ none) es
    → gather f (own_of t es) ≡ gather f es
unfolding own_of
gather-own t f no_element = refl
gather-own t f (an_element {x = p} {xs = ps} n rest) = go (on_table t p.1) refl (gather-own t f rest)
  where
    go : (b : Bool) → on_table t p.1 ≡ b → gather f (own_of t ps) ≡ gather f ps → gather f (own_of t (p ∷ ps)) ≡ gather f (p ∷ ps)
    go true e ih = rw (e, ih)
    go false e ih = rw (e, n e) ih

-- what is so of each effect is so of each entry
pub entries-each : {P : ℕ × Effect → Type 0} (g : ℕ → Effect) (hs : List ℕ) → ((h : ℕ) → P (h, g h)) → Each P (entries g hs)
unfolding entry entries
entries-each g [] so = no_element
entries-each {P} g (h ∷ hs) so = go (g h) (so h) (entries-each g hs so)
  where
    go : (e : Effect) → P (h, e) → Each P (entries g hs) → Each P (entry h e (entries g hs))
    go nothing q ih = ih
    go (inserted t) q ih = an_element q ih
    go (deleted r) q ih = an_element q ih
    go (updated m r) q ih = an_element q ih

-- so it is for a net effect
drawn-own : (t : ℕ) (f : ℕ × Effect → Option Row) (os : List RowOperation)
    → ((h : ℕ) → on_table t (net h os) ≡ false → f (h, net h os) ≡ none) → gather f (own_of t (net_effect os)) ≡ gather f (net_effect os)
unfolding net_effect
drawn-own t f os n = gather-own t f (entries-each (λ h. net h os) (named os) n)

-- ---- Of other tables no row is drawn

not_own : (r : Rule) (x : Row) → eqb x.table r.table ≡ false → own_row r x ≡ none
unfolding own_table own_row
not_own r x n = rw n

if_none : (b : Bool) (o : Option Row) → o ≡ none → (if b then o else none) ≡ none
if_none true o q = q
if_none false o q = refl

module _ (r : Rule) where
  none-deleted : (e : Effect) → on_table r.table e ≡ false → deleted_row r e ≡ none
  unfolding on_table deleted_row
  none-deleted nothing n = refl
  none-deleted (inserted t) n = refl
  none-deleted (deleted x) n = not_own r x n
  none-deleted (updated m x) n = refl

  none_old : (e : Effect) → on_table r.table e ≡ false → old_row r e ≡ none
  unfolding on_table old_row
  none_old nothing n = refl
  none_old (inserted t) n = refl
  none_old (deleted x) n = refl
  none_old (updated m x) n = if_none (meets r m) (own_row r x) (not_own r x n)

  module _ (rows : List Row) (h : ℕ) where
    none-live : (x : Row) → row_at h rows ≡ some x → eqb x.table r.table ≡ false → live_row r rows h ≡ none
    unfolding live_row
    none-live x q n = rw q (not_own r x n)

    none-inserted : {e : Effect} {a b : Option Row} → Differs e a b → row_at h rows ≡ b → on_table r.table e ≡ false
        → inserted_row r rows h e ≡ none
    unfolding on_table inserted_row
    none-inserted stays q n = refl
    none-inserted (comes {e = x}) q n = none-live x q n
    none-inserted goes q n = refl
    none-inserted (changes o) q n = refl

    none-new : {e : Effect} {a b : Option Row} → Differs e a b → row_at h rows ≡ b → on_table r.table e ≡ false → new_row r rows h e ≡ none
    unfolding on_table new_row
    none-new stays q n = refl
    none-new comes q n = refl
    none-new goes q n = refl
    none-new (changes {m = m} {e = x} o) q n =
        if_none (meets r m) (live_row r rows h) (none-live x q (rw o.same_table n))

-- the rows of its transition tables are of its own table
pub own-transition : {m : Image} (r : Rule) (os : List RowOperation) → Sound m → Made m os
    → transition r (make_all os m).rows (own_of r.table (net_effect os)) ≡ transition r (make_all os m).rows (net_effect os)
unfolding transition
own-transition {m} r os s k =
    let t = r.table in
    let rows = (make_all os m).rows in
    rw (
      drawn-own t (λ p. inserted_row r rows p.0 p.1) os (λ h. none-inserted r rows h (differs s k h) refl),
      drawn-own t (λ p. deleted_row r p.1) os (λ h. none-deleted r (net h os)),
      drawn-own t (λ p. new_row r rows p.0 p.1) os (λ h. none-new r rows h (differs s k h) refl),
      drawn-own t (λ p. old_row r p.1) os (λ h. none_old r (net h os)),
    )
