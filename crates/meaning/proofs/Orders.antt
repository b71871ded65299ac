-- The total order: each rule in it is the lowest one ready after those before it. So it is new there, its predecessors stand
-- before it, and a lower rule still waits for one; and as many distinct rules as the book has are all of its rules.
use mathlib.Core.Path.{◌≡◌, refl}
use mathlib.Core.Bool.{Bool, true, false, ◌||◌, not}
use mathlib.Core.List.{List, [], ◌∷◌, ◌++◌, append_assoc}
use mathlib.Core.Logic.{◌⊎◌, inl, inr}
use mathlib.Core.Option.{Option, none, some}
use Prim.Native.Nat.{ℕ, zero, suc, ◌+◌, ◌^◌, ◌≤◌, ◌<◌}
use native.Mathlib.Nat.{zero-div}
use native.Mathlib.Omega.{arith}
use lib.Dec.{eqb, ltb}
use lib.ListN.{length, length-append, length-map, get_or-eq_default}
use borrow.Author.Tests.{ltb-true, ltb-false, not-true, not-false}
use Rattle.meaning.specs.Base.{maybe, any, all, first_with}
use Rattle.meaning.specs.Covers.{Rule}
use Rattle.meaning.specs.Processing.TotalOrder.{numbers, precedes_rule, ready, take_from, order_of, total_order}
use Rattle.meaning.specs.Theorems.{precedes_of, TotalOrder}
use Rattle.meaning.proofs.Lists.{true-is-false, or-false, and-true, and-false, any_append, First, first-is, not-empty, AtEnd, is_end}
use Rattle.meaning.proofs.Lists.{is_before, at-end, has, has_here, has_split, has-none, has_all, all-false, from-has, has-from}
use Rattle.meaning.proofs.Lists.{from-earlier, Distinct, all_new, all_there}

module _ (precedes : List ℕ) where
  -- ---- Rules and their predecessors

  -- past the last rule there are no masks, so no rule there precedes another
  pub is-rule : (i j : ℕ) → precedes_rule precedes i j ≡ true → i < length precedes
  unfolding precedes_rule
  is-rule i j h = go (ltb i (length precedes)) refl
    where
      go : (b : Bool) → ltb i (length precedes) ≡ b → i < length precedes
      go true e = ltb-true i (length precedes) e
      go false e =
          let l = ltb-false i (length precedes) e in
          true-is-false (rw (get_or-eq_default precedes 0 l, zero-div (2 ^ j)) at h) refl

  pub number-has : (k : ℕ) → k < length precedes → has k (numbers precedes) ≡ true
  unfolding numbers
  number-has k h = from-has k 0 (length precedes) (omega arith) (omega arith)

  pub has-number : (k : ℕ) → has k (numbers precedes) ≡ true → k < length precedes
  unfolding numbers
  has-number k h = let d = has-from k 0 (length precedes) h in omega arith

  -- ---- A rule that is ready

  module _ (taken : List ℕ) where
    pub ready-new : (k : ℕ) → ready precedes taken k ≡ true → has k taken ≡ false
    unfolding ready
    ready-new k h = not-true (has k taken) (and-true _ _ h).0

    pub ready-after : (k : ℕ) → ready precedes taken k ≡ true → (i : ℕ) → precedes_rule precedes i k ≡ true → has i taken ≡ true
    unfolding ready
    ready-after k h i p =
        let t = has_all (λ j. not (precedes_rule precedes j k) || has j taken) i (numbers precedes)
        (number-has i (is-rule i k p)) (and-true (not (has k taken)) _ h).1 in
        rw p at t

    -- a rule that is neither taken nor ready has a predecessor that is not taken
    pub blocked : (j : ℕ) → ready precedes taken j ≡ false → has j taken ≡ false
        → (i : ℕ) × (precedes_rule precedes i j ≡ true) × (has i taken ≡ false)
    unfolding ready
    blocked j h n = go (and-false _ _ h)
      where
        go : (not (has j taken) ≡ false) ⊎ (all (λ i. not (precedes_rule precedes i j) || has i taken) (numbers precedes) ≡ false)
            → (i : ℕ) × (precedes_rule precedes i j ≡ true) × (has i taken ≡ false)
        go (inl e) = true-is-false (not-false (has j taken) e) n
        go (inr e) =
            let r = all-false (λ i. not (precedes_rule precedes i j) || has i taken) (numbers precedes) e in
            let o = or-false (not (precedes_rule precedes r.0 j)) (has r.0 taken) r.2 in
            (r.0, not-false (precedes_rule precedes r.0 j) o.0, o.1)

  -- ---- Rules taken in turn

  -- each is the first that is ready after those before it
  pub record InTurn (taken : List ℕ) : Type 0 where
    pub turn : (xs ys : List ℕ) (k : ℕ) → taken ≡ xs ++ (k ∷ ys) → first_with (ready precedes xs) (numbers precedes) ≡ some k

  pub none-in-turn : InTurn []
  none-in-turn = record { turn = λ xs ys k e. not-empty xs k ys e }

  pub more-in-turn : (taken : List ℕ) (j : ℕ) → InTurn taken → first_with (ready precedes taken) (numbers precedes) ≡ some j
      → InTurn (taken ++ (j ∷ []))
  more-in-turn taken j t h = record { turn = λ xs ys k e. go xs k (at-end taken j xs k ys e) }
    where
      go : (xs : List ℕ) (k : ℕ) → AtEnd taken j xs k → first_with (ready precedes xs) (numbers precedes) ≡ some k
      go xs k (is_end a b) = rw (a, b) h
      go xs k (is_before rest a) = t.turn xs rest k a

  module _ {taken : List ℕ} (t : InTurn taken) where
    module _ (xs ys : List ℕ) (k : ℕ) (e : taken ≡ xs ++ (k ∷ ys)) where
      picked : First (ready precedes xs) (numbers precedes) k
      picked = first-is (ready precedes xs) (numbers precedes) k (t.turn xs ys k e)

      pub turn-rule : k < length precedes
      turn-rule = has-number k (rw picked.split (has_here k picked.before picked.after))

      pub turn-new : has k xs ≡ false
      turn-new = ready-new xs k picked.passes

      pub turn-after : (i : ℕ) → precedes_rule precedes i k ≡ true → has i xs ≡ true
      turn-after = ready-after xs k picked.passes

      pub turn-lowest : (j : ℕ) → j < k → has j xs ≡ false → (i : ℕ) × (precedes_rule precedes i j ≡ true) × (has i xs ≡ false)
      unfolding numbers
      turn-lowest j l n =
          let b = from-earlier 0 (length precedes) picked.before picked.after k picked.split j (omega arith) l in
          blocked xs j (has-none (ready precedes xs) j picked.before b picked.earlier) n

    pub turn-distinct : Distinct taken
    turn-distinct = all_new taken turn-new

    pub turn-only : (k : ℕ) → has k taken ≡ true → k < length precedes
    turn-only k h = let s = has_split k taken h in turn-rule s.before s.after k s.split

    pub turn-once : (xs ys : List ℕ) (k : ℕ) → taken ≡ xs ++ (k ∷ ys) → has k (xs ++ ys) ≡ false
    turn-once xs ys k e = rw (any_append (eqb k) xs ys, turn-new xs ys k e) (go (has k ys) refl)
      where
        go : (b : Bool) → has k ys ≡ b → b ≡ false
        go true h =
            let s = has_split k ys h in
            let q : taken ≡ (xs ++ (k ∷ s.before)) ++ (k ∷ s.after) = rw append_assoc (rw s.split at e) in
            true-is-false (has_here k xs s.before) (turn-new (xs ++ (k ∷ s.before)) s.after k q)
        go false h = refl

    -- as many as there are rules are all of them
    pub turn-all : length precedes ≤ length taken → (k : ℕ) → k < length precedes → has k taken ≡ true
    turn-all l = all_there (length precedes) taken turn-distinct turn-only l

  -- ---- The order

  -- all rules are taken in turn, or some are and of the others none is ready
  pub data Taking : Option (List ℕ) → Type 0 where
    finished : {order : List ℕ} → InTurn order → length order ≡ length precedes → Taking (some order)
    stuck : (taken : List ℕ) → length taken < length precedes → first_with (ready precedes taken) (numbers precedes) ≡ none → Taking none

  taking : (n : ℕ) (taken : List ℕ) → InTurn taken → length taken + n ≡ length precedes → Taking (take_from precedes n taken)
  unfolding take_from
  taking zero taken t l = finished t (omega arith)
  taking (suc n) taken t l = go (first_with (ready precedes taken) (numbers precedes)) refl (λ j. taking n (taken ++ (j ∷ [])))
    where
      go : (o : Option ℕ) → first_with (ready precedes taken) (numbers precedes) ≡ o
          → ((j : ℕ) → InTurn (taken ++ (j ∷ [])) → length (taken ++ (j ∷ [])) + n ≡ length precedes
          → Taking (take_from precedes n (taken ++ (j ∷ []))))
          → Taking (maybe o none (λ j. take_from precedes n (taken ++ (j ∷ []))))
      go none e f = stuck taken (omega arith) e
      go (some j) e f = f j (more-in-turn taken j t e) (simp length-append (omega arith))

  pub order-taking : Taking (order_of precedes)
  unfolding order_of
  order-taking = taking (length precedes) [] none-in-turn (omega arith)

  module _ (order : List ℕ) (h : order_of precedes ≡ some order) where
    pub order-in-turn : InTurn order
    order-in-turn = go (rw h at order-taking)
      where
        go : Taking (some order) → InTurn order
        go (finished t l) = t

    pub order-all : (k : ℕ) → k < length precedes → has k order ≡ true
    order-all = go (rw h at order-taking)
      where
        go : Taking (some order) → (k : ℕ) → k < length precedes → has k order ≡ true
        go (finished t l) = turn-all t (omega arith)

pub total-order : TotalOrder
unfolding total_order
total-order rules order h =
    let t = order-in-turn (precedes_of rules) order h in
    let l = length-map rules (λ (r : Rule). r.precedes) in
    record {
      all = λ k b. order-all (precedes_of rules) order h k (omega arith);
      only = λ k m. let b = turn-only (precedes_of rules) t k m in omega arith;
      once = turn-once (precedes_of rules) t;
      after = turn-after (precedes_of rules) t;
      lowest = turn-lowest (precedes_of rules) t;
    }

-- the order holds every rule
pub in_order : (rules : List Rule) (order : List ℕ) → total_order rules ≡ some order → (k : ℕ) → k < length rules → any (eqb k) order ≡ true
in_order rules order h = (total-order rules order h).all
