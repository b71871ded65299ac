-- The search by halving, of lists alone: its invariant, with a lemma for its start, its turns and its end.
use mathlib.Core.Path.{◌≡◌, sym}
use mathlib.Core.List.{List}
use Prim.Native.Nat.{ℕ, ◌+◌, ◌≤◌, ◌<◌}
use native.Mathlib.Omega.{arith}
use lib.ListN.{length, get_or}
use Rattle.slots.specs.declared.Slot.{Slot}
use Rattle.slots.specs.Slots.{blank, place_in, Sorted}
use Rattle.slots.proofs.Order.{place_is, sorted-le}

-- every slot before lo is below the handle, and every slot from hi on is not
pub record Seek (l : List Slot) (n h lo hi : ℕ) : Type 0 where
  pub size : length l ≡ n
  pub order : lo ≤ hi
  pub high : hi ≤ n
  pub under : (k : ℕ) → k < lo → (get_or l k blank).handle < h
  pub over : (k : ℕ) → hi ≤ k → k < n → h ≤ (get_or l k blank).handle

pub seek-start : (l : List Slot) (n h : ℕ) → length l ≡ n → Seek l n h 0 n
seek-start l n h q =
    record {
      size = q;
      order = omega arith;
      high = omega arith;
      under = λ k p. absurd (omega arith);
      over = λ k p r. absurd (omega arith);
    }

module _ {l : List Slot} (n h lo hi : ℕ) (k : Seek l n h lo hi) where
  pub seek-right : (mid v : ℕ) → Sorted l → mid < hi → v ≡ (get_or l mid blank).handle → v < h → Seek l n h (mid + 1) hi
  seek-right mid v s m e t =
      record {
        size = k.size;
        order = omega arith;
        high = k.high;
        under = λ a p. omega (arith, sorted-le s a mid (omega arith) (omega (arith, k.high, k.size)));
        over = k.over;
      }

  pub seek-left : (mid v : ℕ) → Sorted l → lo ≤ mid → mid < hi → v ≡ (get_or l mid blank).handle → h ≤ v → Seek l n h lo mid
  seek-left mid v s m b e t =
      record {
        size = k.size;
        order = m;
        high = omega (arith, k.high);
        under = k.under;
        over = λ a p q. omega (arith, sorted-le s mid a p (omega (arith, k.size)));
      }

  pub seek-done : hi ≤ lo → lo ≡ place_in h l
  seek-done e =
      sym (place_is h l lo (omega (arith, k.order, k.high, k.size)) k.under (λ p. k.over lo e (omega (arith, k.size))))
