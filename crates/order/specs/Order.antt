-- What the answers of the order's builder, and of its parts, mean.
use Rattle.std.specs.Prelude.{Bool, false, ◌&&◌, ◌||◌, not, List, ◌≡◌, ℕ, ◌<◌, take, get_or, Option}
use Rattle.std.proofs.Math.Option.{Option as Maybe}
use Rattle.meaning.specs.Base.{bit, all, up_from}
use Rattle.words.specs.Words.{option_as}

-- the first n numbers, where an order was found
unfoldable pub order_meant : ℕ → Option (List ℕ) → Maybe (List ℕ)
order_meant n = option_as (take n)

-- the rule's number, where one was found
unfoldable pub ready_meant : Option ℕ → Maybe ℕ
ready_meant = option_as (λ j. j)

-- `mask` has bit i for each rule i of n that precedes rule j
pub record MaskOf (precedes : List ℕ) (n j mask : ℕ) : Type 0 where
  pub same : (i : ℕ) → i < n → bit mask i ≡ bit (get_or precedes i 0) j

-- `masks` has such a mask for each rule of n
pub record MasksOf (precedes : List ℕ) (n : ℕ) (masks : List ℕ) : Type 0 where
  pub each : (j : ℕ) → j < n → MaskOf precedes n j (get_or masks j 0)

-- rule i is no predecessor in this mask, or it is taken
unfoldable pub passed : ℕ → List Bool → ℕ → Bool
passed mask taken i = not (bit mask i) || get_or taken i false

-- all rules of n in this mask are taken
unfoldable pub all_passed : ℕ → List Bool → ℕ → Bool
all_passed mask taken n = all (passed mask taken) (up_from 0 n)

-- rule j is not taken, and all of its predecessors are
unfoldable pub may_go : List ℕ → List Bool → ℕ → ℕ → Bool
may_go masks taken n j = not (get_or taken j false) && all_passed (get_or masks j 0) taken n
