-- The order while it is built: the array of taken rules says which rules stand in the order so far, so the code's test of a
-- rule is the definition's, and each turn takes the rule that the definition takes. The promise is made for every list
-- whose predecessor masks these are, since the loop sees the masks alone.
use Rattle.std.specs.Prelude.{Option as Answer, Some, None}
use mathlib.Core.Bool.{Bool, true, false, ◌||◌, not}
use mathlib.Core.List.{List, [], ◌∷◌, ◌++◌}
use mathlib.Core.Option.{Option, none, some}
use mathlib.Core.Path.{◌≡◌, refl, sym, ap, ◌∙◌}
use Prim.Native.Nat.{ℕ, zero, suc, ◌+◌, ◌-◌, ◌<◌, ◌≤◌}
use native.Mathlib.Nat.{sub_self, sub-zero}
use native.Mathlib.Numerals.{unary_clauses, add-one}
use native.Mathlib.Omega.{arith}
use borrow.Author.Tests.{eqb-true, eqb-false}
use lib.Dec.{eqb}
use lib.ListN.{length, get_or, take, set, replicate, length-set, get_or-replicate}
use lib.Seq.{get_or-set_same, get_or-set_other, get_or-take, take-suc-set}
use Rattle.meaning.specs.Base.{any, first_with, up_from}
use Rattle.meaning.specs.Processing.TotalOrder.{numbers, precedes_rule, ready, take_from, order_of}
use Rattle.order.specs.Order.{ready_meant, MasksOf, passed, all_passed, may_go}
use Rattle.order.proofs.Numbers.{all_same, first-same, first_below}

-- `taken` says of each rule of n whether it is among the rules so far
pub Linked : ℕ → List Bool → List ℕ → Type 0
Linked n taken sofar = (i : ℕ) → i < n → get_or taken i false ≡ any (eqb i) sofar

-- so many rules as `rank` says are taken, and stand at the front of `rules`
pub record Building (n : ℕ) (masks : List ℕ) (rank : ℕ) (taken : List Bool) (rules : List ℕ) : Type 0 where
  pub within : rank ≤ n
  pub few : n ≤ 16
  pub places : length taken ≡ 16
  pub room : length rules ≡ 16
  pub linked : Linked n taken (take rank rules)
  pub same : (ps : List ℕ) → length ps ≡ n → MasksOf ps n masks → order_of ps ≡ take_from ps (n - rank) (take rank rules)

-- the masks of a list's first n are those of the list
pub masks-of-front : (precedes : List ℕ) (n : ℕ) (masks : List ℕ) → MasksOf precedes n masks → MasksOf (take n precedes) n masks
masks-of-front precedes n masks m = record {
  each = λ j h. record { same = λ i l. rw (get_or-take n precedes i 0 l) ((m.each j h).same i l) };
}

-- the code's test of a rule is the definition's
module _ (ps : List ℕ) (n : ℕ) (masks : List ℕ) (taken : List Bool) (sofar : List ℕ) (long : length ps ≡ n)
    (m : MasksOf ps n masks) (linked : Linked n taken sofar) where
  passed-same : (i j : ℕ) → i < n → j < n
      → passed (get_or masks j 0) taken i ≡ (not (precedes_rule ps i j) || any (eqb i) sofar)
  unfolding passed precedes_rule Linked
  passed-same i j l h = rw ((m.each j h).same i l, linked i l)

  ready-same : (j : ℕ) → j < n → may_go masks taken n j ≡ ready ps sofar j
  unfolding may_go all_passed ready numbers Linked
  ready-same j h =
      rw (
        long,
        linked j h,
        all_same (passed (get_or masks j 0) taken) (λ i. not (precedes_rule ps i j) || any (eqb i) sofar) 0 n
            (λ i l. passed-same i j (omega arith) h),
      )

  next-same : first_with (may_go masks taken n) (up_from 0 n) ≡ first_with (ready ps sofar) (numbers ps)
  unfolding numbers
  next-same = rw long (first-same (may_go masks taken n) (ready ps sofar) 0 n (λ j h. ready-same j (omega arith)))

-- a turn of the definition
takes : (ps : List ℕ) (left : ℕ) (sofar : List ℕ) (j : ℕ) → 0 < left → first_with (ready ps sofar) (numbers ps) ≡ some j
    → take_from ps left sofar ≡ take_from ps (left - 1) (sofar ++ (j ∷ []))
unfolding take_from
takes ps zero sofar j h e = absurd (omega arith)
takes ps (suc k) sofar j h e = simp unary_clauses (rw e)

takes_none : (ps : List ℕ) (left : ℕ) (sofar : List ℕ) → 0 < left → first_with (ready ps sofar) (numbers ps) ≡ none
    → take_from ps left sofar ≡ none
unfolding take_from
takes_none ps zero sofar h e = absurd (omega arith)
takes_none ps (suc k) sofar h e = rw e

any_last : (i j : ℕ) (xs : List ℕ) → eqb i j ≡ true → any (eqb i) (xs ++ (j ∷ [])) ≡ true
any_last i j [] e = rw e
any_last i j (x ∷ xs) e = rw (any_last i j xs e) (or-true (eqb i x))
  where
    or-true : (t : Bool) → (t || true) ≡ true
    or-true true = refl
    or-true false = refl

any-not-last : (i j : ℕ) (xs : List ℕ) → eqb i j ≡ false → any (eqb i) (xs ++ (j ∷ [])) ≡ any (eqb i) xs
any-not-last i j [] e = rw e
any-not-last i j (x ∷ xs) e = rw (any-not-last i j xs e)

linked-after : (n : ℕ) (taken : List Bool) (sofar : List ℕ) (j : ℕ) → j < length taken → Linked n taken sofar
    → Linked n (set taken j true) (sofar ++ (j ∷ []))
unfolding Linked
linked-after n taken sofar j h linked i l = go (eqb i j) refl
  where
    go : (t : Bool) → eqb i j ≡ t → get_or (set taken j true) i false ≡ any (eqb i) (sofar ++ (j ∷ []))
    go true e =
        rw (any_last i j sofar e, eqb-true i j e) (get_or-set_same taken j true false h)
    go false e =
        rw (any-not-last i j sofar e, get_or-set_other taken j i true false (eqb-false i j e)) (linked i l)

pub nothing-taken : (n : ℕ) (masks : List ℕ) → n ≤ 16 → Building n masks 0 (replicate 16 false) (replicate 16 0)
unfolding Linked order_of
nothing-taken n masks h = record {
  within = omega arith;
  few = h;
  places = refl;
  room = refl;
  linked = λ i l. get_or-replicate 16 i false false (omega arith);
  same = λ ps long m. rw (long, sub-zero);
}

module _ {n : ℕ} {masks : List ℕ} {rank : ℕ} {taken : List Bool} {rules : List ℕ} (b : Building n masks rank taken rules) where
  next-defined : (ps : List ℕ) → length ps ≡ n → MasksOf ps n masks
      → first_with (may_go masks taken n) (up_from 0 n) ≡ first_with (ready ps (take rank rules)) (numbers ps)
  next-defined ps long m = next-same ps n masks taken (take rank rules) long m b.linked

  pub next-below : (j : ℕ) → first_with (may_go masks taken n) (up_from 0 n) ≡ some j → j < 16
  next-below j e = omega (arith, b.few, first_below (may_go masks taken n) 0 n j e)

  pub one-taken : (j : ℕ) → rank < n → first_with (may_go masks taken n) (up_from 0 n) ≡ some j
      → Building n masks (rank + 1) (set taken j true) (set rules rank j)
  one-taken j h e =
      let below : j < n = omega (arith, first_below (may_go masks taken n) 0 n j e) in
      let place : j < length taken = omega (arith, b.places, b.few) in
      let here : rank < length rules = omega (arith, b.room, b.few) in
      let left : n - suc rank ≡ n - rank - 1 = omega arith in
      record {
        within = omega arith;
        few = b.few;
        places = simp length-set b.places;
        room = simp length-set b.room;
        linked = rw (add-one, take-suc-set rules rank j here) (linked-after n taken (take rank rules) j place b.linked);
        same = λ ps long m.
            rw (add-one, left, take-suc-set rules rank j here)
            (b.same ps long m ∙ takes ps (n - rank) (take rank rules) j (omega arith) (sym (next-defined ps long m) ∙ e));
      }

  pub none-ready : (ps : List ℕ) → length ps ≡ n → MasksOf ps n masks → rank < n
      → first_with (may_go masks taken n) (up_from 0 n) ≡ none → order_of ps ≡ none
  none-ready ps long m h e =
      b.same ps long m ∙ takes_none ps (n - rank) (take rank rules) (omega arith) (sym (next-defined ps long m) ∙ e)

  pub all-taken : (ps : List ℕ) → length ps ≡ n → MasksOf ps n masks → n ≤ rank → order_of ps ≡ some (take n rules)
  unfolding take_from
  all-taken ps long m h =
      let full : rank ≡ n = omega (arith, b.within) in
      rw (full, sub_self) at (b.same ps long m)

-- what the search answers, by the case of its answer
module _ {r : Answer ℕ} {o : Option ℕ} (same : ready_meant r ≡ o) where
  pub found_some : {j : ℕ} → r ≡ Some j → o ≡ some j
  unfolding ready_meant
  found_some was = sym same ∙ ap ready_meant was

  pub found_none : r ≡ None → o ≡ none
  unfolding ready_meant
  found_none was = sym same ∙ ap ready_meant was
