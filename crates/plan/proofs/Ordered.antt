-- The numbers in an order of n rules are those of rules: an order that is found holds no others.
use Rattle.std.specs.Prelude.{Option, Some, None}
use mathlib.Core.Path.{◌≡◌, sym}
use mathlib.Core.Bool.{true}
use mathlib.Core.List.{List, [], ◌∷◌}
use mathlib.Core.Option.{some}
use Prim.Native.Nat.{ℕ, zero, suc, ◌<◌}
use native.Mathlib.Omega.{arith}
use lib.Dec.{eqb}
use lib.ListN.{length, get_or, take}
use lib.Seq.{get_or-take}
use Rattle.meaning.specs.Covers.{Rule}
use Rattle.meaning.specs.Processing.TotalOrder.{total_order}
use Rattle.meaning.proofs.Lists.{has, eqb-self, or_left, or_right}
use Rattle.meaning.proofs.Orders.{total-order}
use Rattle.order.specs.Order.{order_meant}
use Rattle.plan.specs.Numbers.{numbers_in, Numbers}

-- what is read at any place of a list is below n if all that it has is; past its end that is 0
each_below : (xs : List ℕ) (n : ℕ) → ((k : ℕ) → has k xs ≡ true → k < n) → 0 < n → (i : ℕ) → get_or xs i 0 < n
each_below [] n only positive i = positive
each_below (x ∷ xs) n only positive zero = only x (or_left (eqb x x) (has x xs) (eqb-self x))
each_below (x ∷ xs) n only positive (suc i) = each_below xs n (λ k h. only k (or_right (eqb k x) (has k xs) h)) positive i

module _ (rules : List Rule) {n : ℕ} (counted : length rules ≡ n) where
  numbers-found : (order : List ℕ) → total_order rules ≡ some (take n order) → Numbers n (Some order)
  unfolding numbers_in
  numbers-found order found = record { rule = λ i h. below i h }
    where
      below : (i : ℕ) → i < n → get_or order i 0 < n
      below i h =
          let only = rw counted at (total-order rules (take n order) found).only in
          rw (← get_or-take n order i 0 h) (each_below (take n order) n only (omega arith) i)

  pub numbers-of-rules : (order : Option (List ℕ)) → order_meant n order ≡ total_order rules → Numbers n order
  unfolding numbers_in order_meant
  numbers-of-rules None is = record { rule = λ i h. omega (arith, h) }
  numbers-of-rules (Some order) is = numbers-found order (sym is)
