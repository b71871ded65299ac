-- A net effect has at most as many entries as the image before and the image after have rows together: an inserted handle is live at the
-- end, a deleted or updated one was live at the start, and each handle is listed once.
use mathlib.Core.Path.{◌≡◌, refl, ◌∙◌}
use mathlib.Core.Logic.{◌≢◌, ◌⊎◌, inl, inr}
use mathlib.Core.Bool.{Bool, true, false}
use mathlib.Core.List.{List, [], ◌∷◌, ◌++◌, map}
use mathlib.Core.Option.{Option, some}
use Prim.Native.Nat.{ℕ, suc, ◌+◌, ◌≤◌}
use native.Mathlib.Omega.{arith}
use lib.Dec.{eqb}
use lib.ListN.{length, length-append, length-map}
use borrow.Author.Tests.{eqb-true, ne_eqb}
use Rattle.meaning.specs.Covers.{Row, Image}
use Rattle.meaning.specs.RowOperations.{RowOperation, Effect, NetEffect, nothing, row_at, make_all, net_effect, effect_at}
use Rattle.meaning.specs.Trace.{Differs, stays, comes, goes, changes}
use Rattle.meaning.proofs.Lists.{true-is-false, or_cases, clash, any-front, any-back, has, eqb-self, Distinct, no_number, another}
use Rattle.meaning.proofs.Lists.{no_longer}
use Rattle.meaning.specs.Made.{Sound, Made}
use Rattle.meaning.proofs.Lookups.{Look, head, later, look, row_at-none}
use Rattle.meaning.proofs.NetEffects.{Listed, no_entry, one_entry, says-net, net_effect-listed}
use Rattle.meaning.proofs.Lives.{differs}

-- ---- The handles that a net effect lists

abbrev listed : NetEffect → List ℕ
listed es = map (λ p. p.0) es

listed_above : {low : ℕ} {es : NetEffect} → Listed low es → (h : ℕ) → has h (listed es) ≡ true → low ≤ h
listed_above no_entry h i = true-is-false i refl
listed_above {low} (one_entry {p = p} {ps = ps} a c r) h i = go (or_cases (eqb h p.0) (has h (listed ps)) i) (listed_above r h)
  where
    go : (eqb h p.0 ≡ true) ⊎ (has h (listed ps) ≡ true) → (has h (listed ps) ≡ true → suc p.0 ≤ h) → low ≤ h
    go (inl e) ih = let f = eqb-true h p.0 e in omega arith
    go (inr e) ih = let f = ih e in omega arith

listed-distinct : {low : ℕ} {es : NetEffect} → Listed low es → Distinct (listed es)
listed-distinct no_entry = no_number
listed-distinct (one_entry {p = p} {ps = ps} a c r) = another (go (has p.0 (listed ps)) refl) (listed-distinct r)
  where
    go : (b : Bool) → has p.0 (listed ps) ≡ b → b ≡ false
    go true e = absurd (let l = listed_above r p.0 e in omega arith)
    go false e = refl

listed-something : {low : ℕ} {es : NetEffect} → Listed low es → (h : ℕ) → has h (listed es) ≡ true → effect_at h es ≢ nothing
unfolding effect_at
listed-something no_entry h i q = true-is-false i refl
listed-something (one_entry {p = p} {ps = ps} a c r) h i q = go (or_cases (eqb h p.0) (has h (listed ps)) i) (listed-something r h)
  where
    go : (eqb h p.0 ≡ true) ⊎ (has h (listed ps) ≡ true) → (has h (listed ps) ≡ true → effect_at h ps ≢ nothing) → ⊥
    go (inl e) ih = c (rw (eqb-true h p.0 e, eqb-self p.0) at q)
    go (inr e) ih = let l = listed_above r h e in ih e (rw (ne_eqb p.0 h (λ f. omega arith)) at q)

-- ---- An entry's handle is live before or after

abbrev pub handles : List Row → List ℕ
handles rs = map (λ r. r.handle) rs

pub has-live : (h : ℕ) (r : Row) (rs : List Row) → row_at h rs ≡ some r → has h (handles rs) ≡ true
has-live h r [] q = clash (row_at-none h) q
has-live h r (x ∷ xs) q = go (has-live h r xs) (look h x xs (some r) q)
  where
    go : (row_at h xs ≡ some r → has h (handles xs) ≡ true) → Look h x xs (some r) → has h (handles (x ∷ xs)) ≡ true
    go ih (head e o) = rw (e, eqb-self h)
    go ih (later e o) = any-back (eqb h) (x.handle ∷ []) (handles xs) (ih o)

has_named : {e : Effect} {a b : Option Row} (h : ℕ) (xs ys : List Row) → row_at h xs ≡ a → row_at h ys ≡ b → Differs e a b → e ≢ nothing
    → has h (handles xs ++ handles ys) ≡ true
has_named h xs ys p q stays n = absurd (n refl)
has_named h xs ys p q (comes {e = e}) n = any-back (eqb h) (handles xs) (handles ys) (has-live h e ys q)
has_named h xs ys p q (goes {s = s}) n = any-front (eqb h) (handles xs) (handles ys) (has-live h s xs p)
has_named h xs ys p q (changes {s = s} o) n = any-front (eqb h) (handles xs) (handles ys) (has-live h s xs p)

pub capacity : {m : Image} {os : List RowOperation} → Sound m → Made m os
    → length (net_effect os) ≤ length m.rows + length (make_all os m).rows
capacity {m} {os} s k =
    let end = (make_all os m).rows in
    let l = net_effect-listed os in
    let f = no_longer (listed-distinct l) (handles m.rows ++ handles end)
    (λ h i. has_named h m.rows end refl refl (differs s k h) (λ e. listed-something l h i (says-net h os ∙ e))) in
    omega (
      arith,
      f,
      length-append (handles m.rows) (handles end),
      length-map (net_effect os) (λ (p : ℕ × Effect). p.0),
      length-map m.rows (λ (r : Row). r.handle),
      length-map end (λ (r : Row). r.handle),
    )
