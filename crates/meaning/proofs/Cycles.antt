-- There is no total order exactly when a rule leads to itself: where no rule is ready, each rule not taken has a predecessor not
-- taken, and the way back along these meets some rule again, as rules are few. In an order, what leads to a rule stands before it.
use mathlib.Core.Path.{◌≡◌, refl}
use mathlib.Core.Bool.{Bool, true, false}
use mathlib.Core.List.{List, [], ◌∷◌, ◌++◌, append_assoc}
use mathlib.Core.Logic.{◌⊎◌, inl, inr}
use mathlib.Core.Option.{Option, none, some}
use Prim.Native.Nat.{ℕ, zero, suc, ◌+◌, ◌≤◌, ◌<◌}
use native.Mathlib.Omega.{arith}
use lib.Dec.{eqb}
use lib.ListN.{length}
use borrow.Author.Tests.{eqb-true}
use Rattle.meaning.specs.Base.{first_with}
use Rattle.meaning.specs.Processing.TotalOrder.{numbers, precedes_rule, ready, order_of}
use Rattle.meaning.specs.Theorems.{Leads, straight, through}
use Rattle.meaning.proofs.Lists.{true-is-false, or_cases, any-front, first-none, has, eqb-self, has_split, has-none, Distinct}
use Rattle.meaning.proofs.Lists.{no_number, another, at_most, one-missing}
use Rattle.meaning.proofs.Orders.{is-rule, number-has, blocked, InTurn, turn-new, turn-after, Taking, stuck, order-taking}
use Rattle.meaning.proofs.Orders.{order-in-turn, order-all}

module _ (precedes : List ℕ) where
  -- ---- Where no rule is ready, a rule leads to itself

  module _ (taken : List ℕ) (l : length taken < length precedes) (h : first_with (ready precedes taken) (numbers precedes) ≡ none) where
    -- each rule not taken has a predecessor not taken
    earlier : (j : ℕ) → j < length precedes → has j taken ≡ false → (i : ℕ) × (precedes_rule precedes i j ≡ true) × (has i taken ≡ false)
    earlier j b n =
        let m = first-none (ready precedes taken) (numbers precedes) h in
        blocked precedes taken j (has-none (ready precedes taken) j (numbers precedes) (number-has precedes j b) m) n

    -- on the way back to rule j the rules seen are distinct, and j leads to each
    record Way (j : ℕ) (seen : List ℕ) : Type 0 where
      free : has j taken ≡ false
      distinct : Distinct (j ∷ seen)
      rules : (k : ℕ) → has k (j ∷ seen) ≡ true → k < length precedes
      leads : (k : ℕ) → has k seen ≡ true → Leads precedes j k

    -- what precedes j leads to all that j does, and to j
    onward : {i j : ℕ} {seen : List ℕ} → Way j seen → precedes_rule precedes i j ≡ true
        → (k : ℕ) → has k (j ∷ seen) ≡ true → Leads precedes i k
    onward {i} {j} {seen} w p k m = go (or_cases (eqb k j) (has k seen) m)
      where
        go : (eqb k j ≡ true) ⊎ (has k seen ≡ true) → Leads precedes i k
        go (inl e) = rw (eqb-true k j e) (straight p)
        go (inr e) = through p (w.leads k e)

    further : {i j : ℕ} {seen : List ℕ} → Way j seen → precedes_rule precedes i j ≡ true → has i taken ≡ false → has i (j ∷ seen) ≡ false
        → Way i (j ∷ seen)
    further {i} {j} {seen} w p n new =
        record {
          free = n;
          distinct = another new w.distinct;
          rules = λ k m. go k (or_cases (eqb k i) (has k (j ∷ seen)) m);
          leads = onward w p;
        }
      where
        go : (k : ℕ) → (eqb k i ≡ true) ⊎ (has k (j ∷ seen) ≡ true) → k < length precedes
        go k (inl e) = rw (eqb-true k i e) (is-rule precedes i j p)
        go k (inr e) = w.rules k e

    back : (left : ℕ) (j : ℕ) (seen : List ℕ) → Way j seen → length precedes ≤ left + length seen → (k : ℕ) × Leads precedes k k
    back zero j seen w m = absurd (let q = at_most (length precedes) w.distinct w.rules in omega arith)
    back (suc left) j seen w m =
        let r = earlier j (w.rules j (rw (eqb-self j))) w.free in
        go r.0 r.1 r.2 (has r.0 (j ∷ seen)) refl (λ v. back left r.0 (j ∷ seen) v (omega arith))
      where
        go : (i : ℕ) → precedes_rule precedes i j ≡ true → has i taken ≡ false → (b : Bool) → has i (j ∷ seen) ≡ b
            → (Way i (j ∷ seen) → (k : ℕ) × Leads precedes k k) → (k : ℕ) × Leads precedes k k
        go i p n true e f = (i, onward w p i e)
        go i p n false e f = f (further w p n e)

    stuck-cycle : (k : ℕ) × Leads precedes k k
    stuck-cycle = let r = one-missing (length precedes) taken l in go r.0 r.1 r.2
      where
        alone : (j k : ℕ) → j < length precedes → (eqb k j ≡ true) ⊎ (has k [] ≡ true) → k < length precedes
        alone j k b (inl e) = rw (eqb-true k j e) b
        alone j k b (inr e) = true-is-false e refl

        go : (j : ℕ) → j < length precedes → has j taken ≡ false → (k : ℕ) × Leads precedes k k
        go j b n =
            let w : Way j [] = record {
              free = n;
              distinct = another refl no_number;
              rules = λ k m. alone j k b (or_cases (eqb k j) false m);
              leads = λ k m. true-is-false m refl;
            } in
            back (length precedes) j [] w (omega arith)

  pub none-cycle : order_of precedes ≡ none → (k : ℕ) × Leads precedes k k
  none-cycle h = go (rw h at (order-taking precedes))
    where
      go : Taking precedes none → (k : ℕ) × Leads precedes k k
      go (stuck taken l e) = stuck-cycle taken l e

  -- ---- In an order, no rule leads to itself

  module _ {order : List ℕ} (t : InTurn precedes order) where
    -- what leads to a rule stands before it
    leads-before : {i k : ℕ} → Leads precedes i k → (xs ys : List ℕ) → order ≡ xs ++ (k ∷ ys) → has i xs ≡ true
    leads-before {i} {k} (straight p) xs ys e = turn-after precedes t xs ys k e i p
    leads-before {i} {k} (through {j = j} p q) xs ys e =
        let s = has_split j xs (leads-before q xs ys e) in
        let u : order ≡ s.before ++ (j ∷ s.after ++ (k ∷ ys)) = rw append_assoc at (rw s.split at e) in
        let m = turn-after precedes t s.before (s.after ++ (k ∷ ys)) j u i p in
        rw s.split (any-front (eqb i) s.before (j ∷ s.after) m)

  leads-rule : {i k : ℕ} → Leads precedes i k → i < length precedes
  leads-rule {i} (straight {j = j} p) = is-rule precedes i j p
  leads-rule {i} (through {j = j} p q) = is-rule precedes i j p

  pub cycle-none : (k : ℕ) → Leads precedes k k → order_of precedes ≡ none
  cycle-none k c = go (order_of precedes) refl
    where
      go : (o : Option (List ℕ)) → order_of precedes ≡ o → o ≡ none
      go none h = refl
      go (some order) h =
          let t = order-in-turn precedes order h in
          let s = has_split k order (order-all precedes order h k (leads-rule c)) in
          true-is-false (leads-before t c s.before s.after s.split) (turn-new precedes t s.before s.after k s.split)
