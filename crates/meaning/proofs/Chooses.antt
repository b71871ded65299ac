-- Queries: each test over a list says what it says of the elements, and a choice by a test picks those that pass.
use Rattle.std.specs.Prelude.{if◌then◌else◌}
use mathlib.Core.Path.{◌≡◌, refl, sym, ap, subst}
use mathlib.Core.Logic.{◌↔◌, ◌⊎◌, inl, inr}
use mathlib.Core.Bool.{Bool, true, false, ◌&&◌, not}
use mathlib.Core.List.{List, [], ◌∷◌}
use Prim.Native.Nat.{ℕ, suc, ◌≤◌}
use native.Mathlib.Omega.{arith}
use lib.IntN.{ℤ, pos, negsuc}
use lib.Dec.{T, eqb, leb}
use lib.Signed.{le_z, lt_z}
use borrow.Author.Tests.{eqb-true, eq-eqb, leb-true, le-leb}
use Rattle.meaning.specs.Base.{any, all, select, ◌∈◌, first, later}
use Rattle.meaning.specs.Base.{Each, no_element, an_element, Picks, no_more, takes, leaves}
use Rattle.meaning.specs.Values.{agree, compare}
use Rattle.meaning.specs.Covers.{Row, Comparison, Source, Pair, Term}
use Rattle.meaning.specs.Covers.{equal, unequal, less, at_most, greater, at_least, constant, columns, match, no_match}
use Rattle.meaning.specs.Covers.{current, inserted, deleted, new_updated, old_updated}
use Rattle.meaning.specs.Processing.TransitionTables.{Transition, transition}
use Rattle.meaning.specs.Processing.Queries.{cell, agree_on, source_rows, holds, all_hold, chosen}
use Rattle.meaning.specs.Made.{Rising, no_row, above}
use Rattle.meaning.specs.Runs.{Accepted, image_after}
use Rattle.meaning.specs.Theorems.Shows.{RisesFrom}
use Rattle.meaning.specs.Theorems.Chooses.{Compares, AgreeOn, Matched, TermSays, Chooses, Rises}
use Rattle.meaning.proofs.Lists.{true-is-false, and-true, or_cases, or_left, or_right}
use Rattle.meaning.proofs.Shows.{shows}
use Rattle.meaning.proofs.Admitted.{admitted}

-- ---- Tests, and what they say

module _ {A : Type 0} (p : A → Bool) {P : A → Type 0} (says : (x : A) → (p x ≡ true) ↔ P x) where
  all-each : (xs : List A) → (all p xs ≡ true) ↔ Each P xs
  all-each [] = (λ h. no_element, λ f. refl)
  all-each (x ∷ xs) = (
    λ h. (let k = and-true (p x) (all p xs) h in an_element ((says x).0 k.0) ((all-each xs).0 k.1)),
    λ f. back f (all-each xs).1,
  )
    where
      back : Each P (x ∷ xs) → (Each P xs → all p xs ≡ true) → p x && all p xs ≡ true
      back (an_element a rest) g = rw ((says x).1 a) (g rest)

  any_some : (xs : List A) → any p xs ≡ true → (x : A) × (x ∈ xs) × P x
  any_some [] h = true-is-false h refl
  any_some (y ∷ xs) h = go (or_cases (p y) (any p xs) h) (any_some xs)
    where
      go : (p y ≡ true) ⊎ (any p xs ≡ true) → (any p xs ≡ true → (x : A) × (x ∈ xs) × P x) → (x : A) × (x ∈ (y ∷ xs)) × P x
      go (inl e) f = (y, first refl, (says y).0 e)
      go (inr e) f = let r = f e in (r.0, later r.1, r.2)

  some-any : (xs : List A) (x : A) → x ∈ xs → P x → any p xs ≡ true
  some-any [] x i q = elim i [ ]
  some-any (y ∷ xs) x (first e) q = or_left (p y) (any p xs) ((says y).1 (subst P e q))
  some-any (y ∷ xs) x (later i) q = or_right (p y) (any p xs) (some-any xs x i q)

  select-picks : (xs : List A) → Picks P xs (select p xs)
  select-picks [] = no_more
  select-picks (x ∷ xs) = go (p x) refl (select-picks xs)
    where
      go : (b : Bool) → p x ≡ b → Picks P xs (select p xs) → Picks P (x ∷ xs) (if b then x ∷ select p xs else select p xs)
      go true e ih = takes ((says x).0 e) ih
      go false e ih = leaves (λ q. true-is-false ((says x).1 q) e) ih

-- the opposite of a test
opposite : {P : Type 0} (b : Bool) → (b ≡ true) ↔ P → (not b ≡ true) ↔ (P → ⊥)
opposite true s = (λ h. true-is-false h refl, λ n. absurd (n (s.0 refl)))
opposite false s = (λ h q. true-is-false (s.1 q) refl, λ n. refl)

-- ---- Comparisons

told : {b : Bool} → b ≡ true → T b
told e = rw e tt

tells : (b : Bool) → T b → b ≡ true
tells true t = refl
tells false t = absurd t

both_ways : (a b : ℕ) → leb a b && leb b a ≡ true → a ≡ b
both_ways a b h =
    let k = and-true (leb a b) (leb b a) h in
    let l = leb-true a b k.0 in
    let m = leb-true b a k.1 in
    omega arith

agree-equal : (a b : ℤ) → agree a b ≡ true → a ≡ b
unfolding agree
agree-equal (pos a) (pos b) h = ap pos (both_ways a b h)
agree-equal (pos a) (negsuc b) h = true-is-false h refl
agree-equal (negsuc a) (pos b) h = true-is-false h refl
agree-equal (negsuc a) (negsuc b) h = ap negsuc (sym (both_ways b a h))

agree-self : (a : ℤ) → agree a a ≡ true
unfolding agree
agree-self (pos a) = rw (le-leb a a (omega arith))
agree-self (negsuc a) = rw (le-leb a a (omega arith))

agrees : (a b : ℤ) → (agree a b ≡ true) ↔ (a ≡ b)
agrees a b = (agree-equal a b, λ e. subst (λ (z : ℤ). agree a z ≡ true) e (agree-self a))

compares : (k : Comparison) (a b : ℤ) → (compare k a b ≡ true) ↔ Compares k a b
unfolding compare
compares equal a b = agrees a b
compares unequal a b = opposite (agree a b) (agrees a b)
compares less a b = (λ h. record { lt = told h }, λ q. tells (lt_z a b) q.lt)
compares at_most a b = (λ h. record { le = told h }, λ q. tells (le_z a b) q.le)
compares greater a b = (λ h. record { lt = told h }, λ q. tells (lt_z b a) q.lt)
compares at_least a b = (λ h. record { le = told h }, λ q. tells (le_z b a) q.le)

-- ---- Terms and queries

agree_on_lem : (ps : List Pair) (x y : Row) → (agree_on ps x y ≡ true) ↔ AgreeOn ps x y
unfolding agree_on
agree_on_lem ps x y = all-each _ (λ p. agrees (cell x p.own) (cell y p.other)) ps

module _ (t : Transition) (rows : List Row) where
  matches : (s : Source) (ps : List Pair) (x : Row) → (any (agree_on ps x) (source_rows t rows s) ≡ true) ↔ Matched t rows s ps x
  matches s ps x = (
    any_some (agree_on ps x) (agree_on_lem ps x) (source_rows t rows s),
    λ m. some-any (agree_on ps x) (agree_on_lem ps x) (source_rows t rows s) m.0 m.1 m.2,
  )

  says : (x : Row) (e : Term) → (holds t rows x e ≡ true) ↔ TermSays t rows x e
  unfolding holds
  says x (constant k c v) = compares k (cell x c) v
  says x (columns k c d) = compares k (cell x c) (cell x d)
  says x (match s ps) = matches s ps x
  says x (no_match s ps) = opposite (any (agree_on ps x) (source_rows t rows s)) (matches s ps x)

  all_say : (ts : List Term) (x : Row) → (all_hold t rows ts x ≡ true) ↔ Each (TermSays t rows x) ts
  unfolding all_hold
  all_say ts x = all-each (holds t rows x) (says x) ts

  pub chooses : Chooses t rows
  unfolding chosen source_rows
  chooses =
      record {
        term = says;
        yields = λ q. select-picks (all_hold t rows q.terms) (all_say q.terms) (source_rows t rows q.source);
        tables = λ n. select-picks (λ r. eqb r.table n) (λ x. (eqb-true x.table n, eq-eqb x.table n)) rows;
        of_inserted = refl;
        of_deleted = refl;
        of_new = refl;
        of_old = refl;
      }

-- ---- By rising handle

rises-lower : {low from : ℕ} (xs : List Row) → low ≤ from → RisesFrom from xs → RisesFrom low xs
rises-lower [] l r = tt
rises-lower (x ∷ xs) l r = (omega (arith, r.0), r.1)

select-rises : (low : ℕ) (p : Row → Bool) (xs : List Row) → RisesFrom low xs → RisesFrom low (select p xs)
select-rises low p [] r = tt
select-rises low p (x ∷ xs) r = go (p x) (select-rises (suc x.handle) p xs r.1)
  where
    go : (b : Bool) → RisesFrom (suc x.handle) (select p xs) → RisesFrom low (if b then x ∷ select p xs else select p xs)
    go true ih = (r.0, ih)
    go false ih = rises-lower (select p xs) (omega (arith, r.0)) ih

rising-rises : {high low : ℕ} {rows : List Row} → Rising high low rows → RisesFrom (suc low) rows
rising-rises no_row = tt
rising-rises (above l h p rest) = (l, rising-rises rest)

source-rises : (t : Transition) (rows : List Row) → RisesFrom 0 rows
    → Each (RisesFrom 0) (t.inserted_rows ∷ t.deleted_rows ∷ t.new_updated ∷ t.old_updated ∷ []) → (s : Source)
    → RisesFrom 0 (source_rows t rows s)
unfolding source_rows
source-rises t rows r tables (current n) = select-rises 0 (λ x. eqb x.table n) rows r
source-rises t rows r (an_element i (an_element d (an_element n (an_element o none)))) inserted = i
source-rises t rows r (an_element i (an_element d (an_element n (an_element o none)))) deleted = d
source-rises t rows r (an_element i (an_element d (an_element n (an_element o none)))) new_updated = n
source-rises t rows r (an_element i (an_element d (an_element n (an_element o none)))) old_updated = o

pub rises : {image book log : List ℕ} (a : Accepted image book log) → Rises a
unfolding chosen
rises a c r e p q =
    let rows = (image_after a p.before).rows in
    let t = transition r (image_after a c.before).rows c.given in
    select-rises 0 (all_hold t rows q.terms) (source_rows t rows q.source)
    (source-rises t rows (rises-lower rows (omega arith) (rising-rises ((admitted a).sound p).rises)) ((shows a).rows c r e).rise
    q.source)
