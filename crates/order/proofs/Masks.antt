-- A mask is built from its highest bit down: each turn doubles it and adds one bit, so the new bit is bit 0 and each
-- earlier one moves up by one. The masks are stored one after the other, and a store changes no other.
use mathlib.Core.List.{List}
use mathlib.Core.Path.{◌≡◌}
use Prim.Native.Nat.{ℕ, zero, suc, ◌+◌, ◌-◌, ◌*◌, ◌/◌, ◌%◌, ◌^◌, ◌<◌, ◌≤◌}
use native.Mathlib.Nat.{pow-suc, pow-succ', div-div-eq-div-mul}
use native.Mathlib.Omega.{arith}
use lib.ListN.{length, get_or}
use Rattle.order.specs.Order.{MaskOf}

-- `mask` holds the bits of the rules from i on, bit 0 that of rule i
pub record MaskFrom (precedes : List ℕ) (n j i mask : ℕ) : Type 0 where
  pub within : i ≤ n
  pub small : mask < 2 ^ (n - i)
  pub same : (k : ℕ) → i + k < n → mask / 2 ^ k % 2 ≡ get_or precedes (i + k) 0 / 2 ^ j % 2

doubled-bit : (m b k : ℕ) → b < 2 → (m * 2 + b) / 2 ^ suc k ≡ m / 2 ^ k
doubled-bit m b k h =
    let half : (m * 2 + b) / 2 ≡ m = omega arith in
    rw (pow-succ' 2 k, ← div-div-eq-div-mul (m * 2 + b) 2 (2 ^ k), half)

module _ (precedes : List ℕ) (n j : ℕ) where
  pub one-bit-more : (i mask b : ℕ) → 0 < i → MaskFrom precedes n j i mask → b ≡ get_or precedes (i - 1) 0 / 2 ^ j % 2
      → MaskFrom precedes n j (i - 1) (mask * 2 + b)
  one-bit-more i mask b h m e = record {
    within = omega arith;
    small =
        let up : n - (i - 1) ≡ suc (n - i) = omega arith in
        rw (up, pow-suc 2 (n - i)) (omega arith);
    same = bits;
  }
    where
      bits : (k : ℕ) → i - 1 + k < n → (mask * 2 + b) / 2 ^ k % 2 ≡ get_or precedes (i - 1 + k) 0 / 2 ^ j % 2
      bits zero l =
          let here : i - 1 + 0 ≡ i - 1 = omega arith in
          rw here (omega arith)
      bits (suc k) l =
          let there : i - 1 + suc k ≡ i + k = omega arith in
          rw (there, doubled-bit mask b k (omega arith)) (m.same k (omega arith))

-- the masks of the rules before j are in place
pub record MasksBefore (precedes : List ℕ) (n j : ℕ) (masks : List ℕ) : Type 0 where
  pub within : j ≤ n
  pub places : length masks ≡ 16
  pub each : (k : ℕ) → k < j → MaskOf precedes n k (get_or masks k 0)
