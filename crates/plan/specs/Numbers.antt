-- The rules' numbers in an order.
use Rattle.std.specs.Prelude.{List, [], ℕ, ◌<◌, get_or, Option, Some, None}

-- the rules' numbers, none where there is no order
unfoldable pub numbers_in : Option (List ℕ) → List ℕ
numbers_in None = []
numbers_in (Some rules) = rules

-- the numbers in an order of n rules are those of rules
pub record Numbers (n : ℕ) (order : Option (List ℕ)) : Type 0 where
  pub rule : (i : ℕ) → i < n → get_or (numbers_in order) i 0 < n
