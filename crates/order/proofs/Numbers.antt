-- Tests over the numbers from one on, so many of them: what is known of each number decides whether all pass, and which is the first that
-- passes. And what `all` and `find` over a range of the code answer is what the definitions give.
use Rattle.std.specs.Prelude.{if◌then◌else◌, Option, Some, None, MatchOption}
use Rattle.std.specs.Bool.{MatchBool}
use Rattle.std.specs.List.{AllWithin, HoldsAt, range_with_len}
use Rattle.std.proofs.lemmas.List.FromFn.{length-range_with_len, get_or-range_with_len}
use mathlib.Core.Bool.{Bool, true, false, ◌&&◌}
use mathlib.Core.Option.{none, some}
use mathlib.Core.Path.{◌≡◌, refl, sym}
use Prim.Native.Nat.{ℕ, zero, suc, ◌+◌, ◌<◌, ◌≤◌}
use native.Mathlib.Nat.{zero-add}
use native.Mathlib.Omega.{arith}
use borrow.Author.Tests.{eqb-true, eqb-false}
use lib.Dec.{eqb}
use lib.ListN.{length}
use Rattle.meaning.specs.Base.{up_from, all, first_with}
use Rattle.words.proofs.Laws.{split}
use Rattle.order.specs.Order.{ready_meant}

and-false : (t : Bool) → t && false ≡ false
and-false true = refl
and-false false = refl

module _ (p : ℕ → Bool) where
  all_pass : (from k : ℕ) → ((i : ℕ) → from ≤ i → i < from + k → p i ≡ true) → all p (up_from from k) ≡ true
  all_pass from zero f = refl
  all_pass from (suc k) f = rw (f from (omega arith) (omega arith), all_pass (suc from) k (λ i l h. f i (omega arith) (omega arith)))

  one-fails : (from k i : ℕ) → from ≤ i → i < from + k → p i ≡ false → all p (up_from from k) ≡ false
  one-fails from zero i l h e = absurd (omega arith)
  one-fails from (suc k) i l h e =
      split (eqb from i)
      (λ q. rw (eqb-true from i q, e))
      (λ q.
      let other = eqb-false from i q in
      rw (one-fails (suc from) k i (omega arith) (omega arith) e) (and-false (p from)))

  none-passes : (from k : ℕ) → ((i : ℕ) → from ≤ i → i < from + k → p i ≡ false) → first_with p (up_from from k) ≡ none
  none-passes from zero f = refl
  none-passes from (suc k) f = rw (f from (omega arith) (omega arith), none-passes (suc from) k (λ i l h. f i (omega arith) (omega arith)))

  first-passes : (from k i : ℕ) → from ≤ i → i < from + k → p i ≡ true → ((j : ℕ) → from ≤ j → j < i → p j ≡ false)
      → first_with p (up_from from k) ≡ some i
  first-passes from zero i l h e f = absurd (omega arith)
  first-passes from (suc k) i l h e f =
      split (eqb from i)
      (λ q. rw (eqb-true from i q, e))
      (λ q.
      let other = eqb-false from i q in
      rw (f from (omega arith) (omega arith))
      (first-passes (suc from) k i (omega arith) (omega arith) e (λ j m n. f j (omega arith) n)))

  -- what `all` answers over a range from 0 on
  pub all-answered : (n : ℕ) (r : Bool) → MatchBool r (AllWithin (λ i. p i ≡ true) (range_with_len 0 n) 0 (length (range_with_len 0 n)))
      ((k : ℕ) × (k < length (range_with_len 0 n)) × HoldsAt (λ i. p i ≡ false) (range_with_len 0 n) k)
      → r ≡ all p (up_from 0 n)
  all-answered n true f = sym (all_pass 0 n passes)
    where
      passes : (i : ℕ) → 0 ≤ i → i < 0 + n → p i ≡ true
      passes i l h =
          let within : i < length (range_with_len 0 n) = omega (arith, length-range_with_len 0 n) in
          rw (get_or-range_with_len 0 n i 0 (omega arith), zero-add) at (f i 0 l within)
  all-answered n false (k, below, f) =
      let within : k < n = omega (arith, length-range_with_len 0 n) in
      let fails : p k ≡ false = rw (get_or-range_with_len 0 n k 0 within, zero-add) at (f 0) in
      sym (one-fails 0 n k (omega arith) (omega arith) fails)

  -- what `find` answers over a range from 0 on
  pub first-answered : (n : ℕ) (r : Option ℕ) → MatchOption r ((k : ℕ) → 0 ≤ k → k < n → p k ≡ false)
      (λ i. (0 ≤ i) × (i < n) × (p i ≡ true) × ((k : ℕ) → 0 ≤ k → k < i → p k ≡ false))
      → ready_meant r ≡ first_with p (up_from 0 n)
  unfolding ready_meant
  first-answered n None f = sym (none-passes 0 n (λ i l h. f i l (omega arith)))
  first-answered n (Some i) (l, h, e, f) = sym (first-passes 0 n i l (omega arith) e f)

-- two tests that agree on the numbers find the same
module _ (p q : ℕ → Bool) where
  pub all_same : (from k : ℕ) → ((i : ℕ) → i < from + k → p i ≡ q i) → all p (up_from from k) ≡ all q (up_from from k)
  all_same from zero f = refl
  all_same from (suc k) f = rw (f from (omega arith), all_same (suc from) k (λ i h. f i (omega arith)))

  pub first-same : (from k : ℕ) → ((i : ℕ) → i < from + k → p i ≡ q i)
      → first_with p (up_from from k) ≡ first_with q (up_from from k)
  first-same from zero f = refl
  first-same from (suc k) f = rw (f from (omega arith), first-same (suc from) k (λ i h. f i (omega arith)))

-- what is found is one of the numbers
pub first_below : (p : ℕ → Bool) (from k j : ℕ) → first_with p (up_from from k) ≡ some j → j < from + k
first_below p from zero j e = let z : ◌≡◌ {A = ℕ} 0 1 = cc in absurd (omega arith)
first_below p from (suc k) j e = go (p from) (λ h. first_below p (suc from) k j h) e
  where
    go : (t : Bool) → (first_with p (up_from (suc from) k) ≡ some j → j < suc from + k)
        → (if t then some from else first_with p (up_from (suc from) k)) ≡ some j → j < from + suc k
    go true f h = let same : from ≡ j = cc in omega arith
    go false f h = omega (arith, f h)
