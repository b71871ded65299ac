-- Drawing the transition tables of a rule: each has at most 64 rows, and the room after it represents the state whose mark of the rule is
-- moved up to now. An inserted row is live now and a deleted or updated one was live at the mark, each handle is listed once, and both
-- images are sound.
use mathlib.Core.Path.{◌≡◌, refl, ap}
use mathlib.Core.Logic.{◌⊎◌, inl, inr}
use mathlib.Core.Bool.{Bool, true, false}
use mathlib.Core.List.{List, [], ◌∷◌}
use mathlib.Core.Option.{Option, none, some}
use Prim.Native.Nat.{ℕ, suc, ◌≤◌, ◌<◌}
use native.Mathlib.Omega.{arith}
use lib.Dec.{eqb}
use lib.ListN.{length, get_or, length-map}
use borrow.Author.Tests.{eqb-true, ne_eqb}
use Rattle.meaning.specs.Base.{any, gather}
use Rattle.meaning.specs.Covers.{Row, Rule, Image}
use Rattle.meaning.specs.RowOperations.{RowOperation, Effect, NetEffect, row_at, net, net_effect, effect_at, own_of}
use Rattle.meaning.specs.Processing.{State, since, waits}
use Rattle.meaning.specs.Processing.TransitionTables.{wakes, deleted_row, old_row, inserted_row, new_row, transition}
use Rattle.meaning.specs.Trace.{Differs, stays, comes, goes, changes}
use Rattle.meaning.proofs.Lists.{true-is-false, or_cases, clash, has, eqb-self, Distinct, no_number, another, no_longer}
use Rattle.meaning.proofs.NetEffects.{Listed, no_entry, one_entry, says-net, net_effect-listed}
use Rattle.meaning.proofs.Capacity.{handles, has-live}
use Rattle.meaning.proofs.Lives.{differs}
use Rattle.room.specs.Room.{ROWS, live_rows, waits_in}
use Rattle.meaning.proofs.OwnTable.{own-gather, own-wakes, own-transition}
use Rattle.room.specs.Drawn.{drawn_for, Few}
use Rattle.room.specs.Represents.{Reached, Settled}
use Rattle.room.proofs.Live.{reached-sound}
use Rattle.room.proofs.Steps.{Stretch, stretch}
use Rattle.room.proofs.Settling.{settled-waits}

-- ---- The entries of which a row is drawn

module _ (f : ℕ → Effect → Option Row) where
  unfoldable kept : Option Row → ℕ → List ℕ → List ℕ
  kept none h hs = hs
  kept (some r) h hs = h ∷ hs

  -- their handles
  unfoldable drawing : NetEffect → List ℕ
  drawing [] = []
  drawing (p ∷ ps) = kept (f p.0 p.1) p.0 (drawing ps)

  drawing-length : (es : NetEffect) → length (gather (λ p. f p.0 p.1) es) ≡ length (drawing es)
  unfolding drawing kept
  drawing-length [] = refl
  drawing-length (p ∷ ps) = go (f p.0 p.1) refl (drawing-length ps)
    where
      go : (o : Option Row) → f p.0 p.1 ≡ o → length (gather (λ p. f p.0 p.1) ps) ≡ length (drawing ps)
          → length (gather (λ p. f p.0 p.1) (p ∷ ps)) ≡ length (drawing (p ∷ ps))
      go none q ih = rw q ih
      go (some r) q ih = rw q (ap suc ih)

  -- a handle among them is the first entry's or a later one's
  drawing-cases : (h : ℕ) (p : ℕ × Effect) (ps : NetEffect) → has h (drawing (p ∷ ps)) ≡ true
      → ((h ≡ p.0) × ((r : Row) × (f p.0 p.1 ≡ some r))) ⊎ (has h (drawing ps) ≡ true)
  unfolding drawing kept
  drawing-cases h p ps i = go (f p.0 p.1) refl
    where
      by : (r : Row) → f p.0 p.1 ≡ some r → (eqb h p.0 ≡ true) ⊎ (has h (drawing ps) ≡ true)
          → ((h ≡ p.0) × ((r : Row) × (f p.0 p.1 ≡ some r))) ⊎ (has h (drawing ps) ≡ true)
      by r q (inl e) = inl (eqb-true h p.0 e, (r, q))
      by r q (inr e) = inr e

      go : (o : Option Row) → f p.0 p.1 ≡ o
          → ((h ≡ p.0) × ((r : Row) × (f p.0 p.1 ≡ some r))) ⊎ (has h (drawing ps) ≡ true)
      go none q = inr (rw q at i)
      go (some r) q = by r q (or_cases (eqb h p.0) (has h (drawing ps)) (rw q at i))

  drawing-above : {low : ℕ} {es : NetEffect} → Listed low es → (h : ℕ) → has h (drawing es) ≡ true → low ≤ h
  unfolding drawing
  drawing-above no_entry h i = true-is-false i refl
  drawing-above {low} (one_entry {p = p} {ps = ps} a c l) h i = go (drawing-cases h p ps i) (drawing-above l h)
    where
      go : ((h ≡ p.0) × ((r : Row) × (f p.0 p.1 ≡ some r))) ⊎ (has h (drawing ps) ≡ true)
          → (has h (drawing ps) ≡ true → suc p.0 ≤ h) → low ≤ h
      go (inl e) ih = let q = e.0 in omega arith
      go (inr e) ih = let q = ih e in omega arith

  drawing-distinct : {low : ℕ} {es : NetEffect} → Listed low es → Distinct (drawing es)
  unfolding drawing kept
  drawing-distinct no_entry = no_number
  drawing-distinct (one_entry {p = p} {ps = ps} a c l) = go (f p.0 p.1) (drawing-distinct l)
    where
      new : (b : Bool) → has p.0 (drawing ps) ≡ b → b ≡ false
      new true e = absurd (let d = drawing-above l p.0 e in omega arith)
      new false e = refl

      go : (o : Option Row) → Distinct (drawing ps) → Distinct (kept o p.0 (drawing ps))
      go none d = d
      go (some r) d = another (new (has p.0 (drawing ps)) refl) d

  -- a row is drawn of what is said of each
  drawing-says : {low : ℕ} {es : NetEffect} → Listed low es → (h : ℕ) → has h (drawing es) ≡ true
      → (r : Row) × (f h (effect_at h es) ≡ some r)
  unfolding drawing effect_at
  drawing-says no_entry h i = true-is-false i refl
  drawing-says (one_entry {p = p} {ps = ps} a c l) h i = go (drawing-cases h p ps i) (drawing-says l h)
    where
      go : ((h ≡ p.0) × ((r : Row) × (f p.0 p.1 ≡ some r))) ⊎ (has h (drawing ps) ≡ true)
          → (has h (drawing ps) ≡ true → (r : Row) × (f h (effect_at h ps) ≡ some r)) → (r : Row) × (f h (effect_at h (p ∷ ps)) ≡ some r)
      go (inl e) ih = (e.1.0, rw (e.0, eqb-self p.0) e.1.1)
      go (inr e) ih =
          let d = drawing-above l h e in
          let r = ih e in
          (r.0, rw (ne_eqb p.0 h (λ q. omega arith)) r.1)

-- ---- Counted against the rows of an image

-- a live row
record Lives (h : ℕ) (rs : List Row) : Type 0 where
  row : Row
  found : row_at h rs ≡ some row

-- where a row is drawn only of a handle that is live, no more are drawn than there are rows
drawn-few : (f : ℕ → Effect → Option Row) (os : List RowOperation) (rs : List Row)
    → ((h : ℕ) (r : Row) → f h (net h os) ≡ some r → Lives h rs)
    → length (gather (λ p. f p.0 p.1) (net_effect os)) ≤ length rs
drawn-few f os rs live =
    let l = net_effect-listed os in
    let n = no_longer (drawing-distinct f l) (handles rs) (λ h i.
    let r = drawing-says f l h i in
    let v = live h r.0 (rw (says-net h os) at r.1) in
    has-live h v.row rs v.found) in
    omega (arith, drawing-length f (net_effect os), length-map rs (λ (r : Row). r.handle))

-- ---- What is drawn is live, at the start of a stretch or at its end

module _ (rule : Rule) (rows : List Row) (h : ℕ) (rs : List Row) where
  inserted-lives : {e : Effect} {a b : Option Row} {r : Row} → Differs e a b → row_at h rs ≡ b → inserted_row rule rows h e ≡ some r
      → Lives h rs
  unfolding inserted_row
  inserted-lives stays p q = clash refl q
  inserted-lives (comes {e = x}) p q = record { row = x; found = p }
  inserted-lives goes p q = clash refl q
  inserted-lives (changes o) p q = clash refl q

  deleted-lived : {e : Effect} {a b : Option Row} {r : Row} → Differs e a b → row_at h rs ≡ a → deleted_row rule e ≡ some r
      → Lives h rs
  unfolding deleted_row
  deleted-lived stays p q = clash refl q
  deleted-lived comes p q = clash refl q
  deleted-lived (goes {s = x}) p q = record { row = x; found = p }
  deleted-lived (changes o) p q = clash refl q

  new-lived : {e : Effect} {a b : Option Row} {r : Row} → Differs e a b → row_at h rs ≡ a → new_row rule rows h e ≡ some r
      → Lives h rs
  unfolding new_row
  new-lived stays p q = clash refl q
  new-lived comes p q = clash refl q
  new-lived goes p q = clash refl q
  new-lived (changes {s = x} o) p q = record { row = x; found = p }

  old-lived : {e : Effect} {a b : Option Row} {r : Row} → Differs e a b → row_at h rs ≡ a → old_row rule e ≡ some r
      → Lives h rs
  unfolding old_row
  old-lived stays p q = clash refl q
  old-lived comes p q = clash refl q
  old-lived goes p q = clash refl q
  old-lived (changes {s = x} o) p q = record { row = x; found = p }

-- ---- The transition tables

module _ {m end : Image} {os : List RowOperation} (t : Stretch m os end) (fits : length end.rows ≤ ROWS)
    (rule : Rule) (rows : List Row) where
  differs_at : (h : ℕ) → Differs (net h os) (row_at h m.rows) (row_at h end.rows)
  differs_at h = rw (← t.ends) (differs t.sound t.made h)

  stretch-few : Few (transition rule rows (net_effect os))
  unfolding transition
  stretch-few =
      let few = t.sound.rows_fit in
      let was = m.rows in
      let is = end.rows in
      record {
        inserted = omega (arith, drawn-few (inserted_row rule rows) os is (λ h r q. inserted-lives rule rows h is (differs_at h) refl q));
        deleted = omega (arith, drawn-few (λ h e. deleted_row rule e) os was (λ h r q. deleted-lived rule rows h was (differs_at h) refl q));
        new = omega (arith, drawn-few (new_row rule rows) os was (λ h r q. new-lived rule rows h was (differs_at h) refl q));
        old = omega (arith, drawn-few (λ h e. old_row rule e) os was (λ h r q. old-lived rule rows h was (differs_at h) refl q));
      }

-- so is what is drawn from a table's part of it
own-fewer : (t : ℕ) (rule : Rule) (rows : List Row) (es : NetEffect) → Few (transition rule rows es) → Few (transition rule rows (own_of t es))
unfolding transition
own-fewer t rule rows es f =
    record {
      inserted = omega (arith, f.inserted, own-gather t (λ p. inserted_row rule rows p.0 p.1) es);
      deleted = omega (arith, f.deleted, own-gather t (λ p. deleted_row rule p.1) es);
      new = omega (arith, f.new, own-gather t (λ p. new_row rule rows p.0 p.1) es);
      old = omega (arith, f.old, own-gather t (λ p. old_row rule p.1) es);
    }

module _ {s : State} {xs tables : List ℕ} (p : Settled xs tables s) (k : ℕ) (low : k < 16) (on : get_or tables k 0 ≤ 3) where
  pub draw-few : {start : Image} → Reached start s → (rule : Rule) → Few (drawn_for xs k rule)
  unfolding drawn_for waits
  draw-few reached rule =
      rw (settled-waits p k low on)
      (own-fewer (get_or tables k 0) rule (live_rows xs) (net_effect (since s k))
      (stretch-few (stretch reached k) (reached-sound reached).rows_fit rule (live_rows xs)))

  -- ---- Of what waits, a rule sees no more than its own table's part

  module _ (rule : Rule) (own : get_or tables k 0 ≡ rule.table) where
    pub woken-whole : any (λ e. wakes rule e.1) (waits_in xs k) ≡ any (λ e. wakes rule e.1) (waits s k)
    woken-whole = rw (settled-waits p k low on, own) (own-wakes rule (waits s k))

    pub drawn-whole : {start : Image} → Reached start s → drawn_for xs k rule ≡ transition rule s.image.rows (waits s k)
    unfolding drawn_for waits
    drawn-whole reached =
        let t = stretch reached k in
        rw (settled-waits p k low on, own, p.represents.rows)
        (rw t.ends at (own-transition rule (since s k) t.sound t.made))
