-- Laws of the pairs of a match, which are read one after another into four. Each new one comes in front; while there are fewer than four
-- the last stands twice, so nothing is lost where it gives way.
use mathlib.Core.Path.{◌≡◌, refl, sym, ap, ◌∙◌}
use mathlib.Core.Bool.{Bool, true, false, ◌&&◌, and-true, and-false}
use mathlib.Core.List.{List, []}
use Prim.Native.Nat.{ℕ, ◌+◌, ◌-◌, ◌≤◌, ◌<◌}
use native.Mathlib.Omega.{arith}
use borrow.Author.Tests.{ltb-true, ltb-false}
use lib.Dec.{ltb}
use lib.ListN.{length}
use Rattle.meaning.specs.Covers.{Row}
use Rattle.meaning.specs.ByteLayouts.{pair}
use Rattle.meaning.specs.Reading.{bad, got}
use Rattle.meaning.specs.Processing.Queries.{cell, agree_on}
use Rattle.meaning.specs.Values.{agree}
use Rattle.words.specs.Words.{readable, Peeked}
use Rattle.words.proofs.Laws.{split, readable-none, readable-bad, readable-more}
use Rattle.query.specs.declared.Pairs.{Pairs}
use Rattle.query.specs.Picks.{agree_on_four, AsPairs}
use Rattle.query.specs.Columns.{with_pair}
use Rattle.query.proofs.Laws.{pair-own-wrong, pair-other-wrong}

-- ---- Where a pair can be read, the first bytes are one

module _ (book : List ℕ) (at n : ℕ) (some : 1 ≤ length (readable n pair book at)) where
  none-readable : {P : Type 0} → readable n pair book at ≡ [] → P
  none-readable e = let z : length (readable n pair book at) ≡ 0 = rw e in absurd (omega arith)

  pub first_some : 0 < n
  first_some =
      split (ltb 0 n) (ltb-true 0 n) (λ e. none-readable (readable-none pair n book at (ltb-false 0 n e)))

  module _ {a : ℕ} (x : Peeked book at a) where
    pub first-own : a ≤ 3
    first-own =
        split (ltb 3 a)
        (λ e. none-readable (readable-bad pair n book at (pair-own-wrong x (ltb-true 3 a e))))
        (ltb-false 3 a)

    pub first-other : {b : ℕ} → Peeked book (at + 1) b → b ≤ 3
    first-other {b} y =
        split (ltb 3 b)
        (λ e. none-readable (readable-bad pair n book at (pair-other-wrong x first-own y (ltb-true 3 b e))))
        (ltb-false 3 b)

-- ---- Pair by pair

-- the n pairs say the same as the four so far and those that are left
pub record Gathering (book : List ℕ) (at n : ℕ) (p : Pairs) (left here : ℕ) : Type 0 where
  pub low : left < n
  pub few : n + length (readable left pair book here) ≤ left + 4
  pub each : (own other : Row)
      → agree_on (readable n pair book at) own other ≡ (agree_on_four p own other && agree_on (readable left pair book here) own other)
  pub second : n ≤ left + 1 → (p.own1 ≡ p.own0) × (p.other1 ≡ p.other0)
  pub third : n ≤ left + 2 → (p.own2 ≡ p.own1) × (p.other2 ≡ p.other1)
  pub fourth : n ≤ left + 3 → (p.own3 ≡ p.own2) × (p.other3 ≡ p.other2)

-- the first stands four times
abbrev pub four_times : ℕ → ℕ → Pairs
four_times own other =
    record {
      own0 = own;
      other0 = other;
      own1 = own;
      other1 = other;
      own2 = own;
      other2 = other;
      own3 = own;
      other3 = other;
    }

four_same : (t rest : Bool) → t && rest ≡ (t && (t && (t && t))) && rest
four_same true rest = refl
four_same false rest = refl

pub gathering-start : {book : List ℕ} {at n a b next : ℕ} → 0 < n → length (readable n pair book at) ≤ 4
    → pair book at ≡ got (record { own = a; other = b }) next → Gathering book at n (four_times a b) (n - 1) next
unfolding agree_on agree_on_four
gathering-start {book} {at} {n} {a} {b} {next} h few e =
    let all = readable-more pair n book at _ next h e in
    let size = ap length all in
    record {
      low = omega arith;
      few = omega arith;
      each = λ own other. rw all (four_same (agree (cell own a) (cell other b)) _);
      second = λ k. (refl, refl);
      third = λ k. (refl, refl);
      fourth = λ k. (refl, refl);
    }

-- the last of four gives way to a new one in front, where it stands twice
give-way : (x a b c rest : Bool) → (a && (b && (c && c))) && (x && rest) ≡ (x && (a && (b && c))) && rest
give-way true a b true rest = refl
give-way true a b false rest = refl
give-way false a b c rest = and-false (a && (b && (c && c)))

module _ {book : List ℕ} {at n : ℕ} {p : Pairs} {left here : ℕ} (s : Gathering book at n p left here) where
  ended : readable left pair book here ≡ [] → AsPairs (readable n pair book at) p
  unfolding agree_on
  ended e = record { each = λ own other. sym (s.each own other ∙ rw e (and-true (agree_on_four p own other))) }

  pub gathered-all : left ≤ 0 → AsPairs (readable n pair book at) p
  gathered-all h = ended (readable-none pair left book here h)

  pub gathered-bad : pair book here ≡ bad → AsPairs (readable n pair book at) p
  gathered-bad e = ended (readable-bad pair left book here e)

  pub gathering-more : {a b next : ℕ} → 0 < left → pair book here ≡ got (record { own = a; other = b }) next
      → Gathering book at n (with_pair a b p) (left - 1) next
  unfolding agree_on agree_on_four with_pair
  gathering-more {a} {b} {next} h e =
      let all = readable-more pair left book here _ next h e in
      let low = s.low in
      let size = ap length all in
      let few = s.few in
      let twice = s.fourth (omega arith) in
      record {
        low = omega arith;
        few = omega arith;
        each = λ own other.
            s.each own other
            ∙ rw (all, twice.0, twice.1)
            (give-way (agree (cell own a) (cell other b)) (agree (cell own p.own0) (cell other p.other0))
            (agree (cell own p.own1) (cell other p.other1)) (agree (cell own p.own2) (cell other p.other2)) _);
        second = λ k. absurd (omega arith);
        third = λ k. s.second (omega arith);
        fourth = λ k. s.third (omega arith);
      }
