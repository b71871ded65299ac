-- Frames compose and widen. Bytes that are alike, here or at another place, are the same word and the same slot; so what stands outside a
-- frame stays. A store of a word changes its four bytes alone, and the six stores of a slot its twenty-four, since each store leaves the
-- words before it as they were.
use Rattle.std.specs.Prelude.{if◌then◌else◌}
use mathlib.Core.Path.{◌≡◌, refl, ap, ◌∙◌}
use mathlib.Core.List.{List}
use Prim.Native.Nat.{ℕ, suc, ◌+◌, ◌*◌, ◌/◌, ◌%◌, ◌≤◌, ◌<◌}
use native.Mathlib.Nat.{add-zero, add_assoc}
use native.Mathlib.Omega.{arith}
use borrow.Author.Tests.{eqb-true, eqb-false, ltb-true, ltb-false}
use lib.Dec.{eqb, ltb}
use lib.ListN.{length, get_or}
use lib.Seq.{sets, length-sets, ext_get_or}
use Rattle.words.specs.Words.{low_bytes4}
use Rattle.words.specs.Words.{Bytes, low32_at}
use Rattle.words.proofs.Laws.{split, low32-lt, read-written-low32, written-low32-below, written-low32-above}
use Rattle.slots.specs.declared.Slot.{Slot}
use Rattle.slots.specs.Slots.{slot_at, Frame, Stored, Alike, blank, with_value, with_marks}

-- ---- Frames

pub frame-refl : {lo hi : ℕ} {xs : List ℕ} → Frame lo hi xs xs
frame-refl = record { len = refl; below = λ k h. refl; above = λ k h. refl }

pub frame-trans : {lo hi : ℕ} {xs ys zs : List ℕ} → Frame lo hi xs ys → Frame lo hi ys zs → Frame lo hi xs zs
frame-trans f g =
    record {
      len = g.len ∙ f.len;
      below = λ k h. g.below k h ∙ f.below k h;
      above = λ k h. g.above k h ∙ f.above k h;
    }

pub frame-wider : {lo hi lo' hi' : ℕ} {xs ys : List ℕ} → Frame lo hi xs ys → lo' ≤ lo → hi ≤ hi' → Frame lo' hi' xs ys
frame-wider f a b =
    record { len = f.len; below = λ k h. f.below k (omega arith); above = λ k h. f.above k (omega arith) }

-- a change in each of two ranges, apart or not, is one in a range that has both
pub frame-join : {lo hi lo₁ hi₁ lo₂ hi₂ : ℕ} {xs ys zs : List ℕ} → Frame lo₁ hi₁ xs ys → Frame lo₂ hi₂ ys zs
    → lo ≤ lo₁ → hi₁ ≤ hi → lo ≤ lo₂ → hi₂ ≤ hi → Frame lo hi xs zs
frame-join f g a b c d = frame-trans (frame-wider f a b) (frame-wider g c d)

-- what changes only in each of two ranges that are apart changes nowhere
pub frame_apart : {lo₁ hi₁ lo₂ hi₂ : ℕ} {xs ys : List ℕ} → Frame lo₁ hi₁ xs ys → Frame lo₂ hi₂ xs ys → hi₁ ≤ lo₂ → ys ≡ xs
frame_apart {lo₁} {hi₁} {lo₂} {hi₂} {xs} {ys} f g h =
    ext_get_or 0 ys xs f.len (λ k b.
    split (ltb k lo₂)
    (λ e. g.below k (ltb-true k lo₂ e))
    (λ e. f.above k (omega (arith, ltb-false k lo₂ e))))

-- ---- Bytes that are alike, here or at another place

alike-part : {xs ys : List ℕ} {a b n : ℕ} → Alike xs ys a b n → (d m : ℕ) → d + m ≤ n → Alike xs ys (a + d) (b + d) m
alike-part {xs} {ys} {a} {b} l d m h = record { same = λ j p. rw (add_assoc a d j, add_assoc b d j) (l.same (d + j) (omega arith)) }

pub alike-rest : {xs ys : List ℕ} (a b n : ℕ) → Alike xs ys a b (24 * suc n) → Alike xs ys (a + 24) (b + 24) (24 * n)
alike-rest a b n l = alike-part l 24 (24 * n) (omega arith)

word-alike : {xs ys : List ℕ} {a b n : ℕ} → Alike xs ys a b n → 4 ≤ n → low32_at ys b ≡ low32_at xs a
unfolding low32_at
word-alike {xs} {ys} {a} {b} l h =
    let first : get_or ys b 0 ≡ get_or xs a 0 = rw (add-zero a, add-zero b) at (l.same 0 (omega arith)) in
    rw (first, l.same 1 (omega arith), l.same 2 (omega arith), l.same 3 (omega arith))

pub slot-alike : {xs ys : List ℕ} {a b n : ℕ} → Alike xs ys a b n → 24 ≤ n → slot_at ys b ≡ slot_at xs a
unfolding slot_at
slot-alike l h =
    rw (
      word-alike l (omega arith),
      word-alike (alike-part l 4 4 (omega arith)) (omega arith),
      word-alike (alike-part l 8 4 (omega arith)) (omega arith),
      word-alike (alike-part l 12 4 (omega arith)) (omega arith),
      word-alike (alike-part l 16 4 (omega arith)) (omega arith),
      word-alike (alike-part l 20 4 (omega arith)) (omega arith),
    )

-- ---- What stands outside a frame

module _ {lo hi : ℕ} {xs ys : List ℕ} (f : Frame lo hi xs ys) (at : ℕ) where
  pub kept-below : (n : ℕ) → at + n ≤ lo → Alike xs ys at at n
  kept-below n h = record { same = λ j p. f.below (at + j) (omega arith) }

  pub kept_above : (n : ℕ) → hi ≤ at → Alike xs ys at at n
  kept_above n h = record { same = λ j p. f.above (at + j) (omega arith) }

module _ {lo hi : ℕ} {xs ys : List ℕ} (f : Frame lo hi xs ys) (at : ℕ) where
  pub word-kept-below : at + 4 ≤ lo → low32_at ys at ≡ low32_at xs at
  word-kept-below h = word-alike (kept-below f at 4 h) (omega arith)

  pub word-kept-above : hi ≤ at → low32_at ys at ≡ low32_at xs at
  word-kept-above h = word-alike (kept_above f at 4 h) (omega arith)

-- ---- A slot's fields fit their types

pub record Fits (e : Slot) : Type 0 where
  pub handle : e.handle < 4294967296
  pub kind : e.kind < 256
  pub mask : e.mask < 256
  pub table : e.table < 256
  pub v0 : e.v0 < 4294967296
  pub v1 : e.v1 < 4294967296
  pub v2 : e.v2 < 4294967296
  pub v3 : e.v3 < 4294967296

pub slot-fits : (xs : List ℕ) → Bytes xs → (at : ℕ) → Fits (slot_at xs at)
unfolding slot_at
slot-fits xs b at =
    record {
      handle = low32-lt xs b at;
      kind = omega arith;
      mask = omega arith;
      table = omega arith;
      v0 = low32-lt xs b (at + 8);
      v1 = low32-lt xs b (at + 12);
      v2 = low32-lt xs b (at + 16);
      v3 = low32-lt xs b (at + 20);
    }

marked-fits : {e : Slot} (w : ℕ) → Fits e → Fits (with_marks e w)
unfolding with_marks
marked-fits w f =
    record {
      handle = f.handle;
      kind = omega arith;
      mask = omega arith;
      table = omega arith;
      v0 = f.v0;
      v1 = f.v1;
      v2 = f.v2;
      v3 = f.v3;
    }

pub blank-fits : Fits blank
blank-fits =
    record {
      handle = omega arith;
      kind = omega arith;
      mask = omega arith;
      table = omega arith;
      v0 = omega arith;
      v1 = omega arith;
      v2 = omega arith;
      v3 = omega arith;
    }

-- ---- Stores

-- the word at a place was stored, and nothing else changed
pub record PutWord (xs ys : List ℕ) (at v : ℕ) : Type 0 where
  pub frame : Frame at (at + 4) xs ys
  pub same : low32_at ys at ≡ v

pub word-put : {xs ys : List ℕ} (at v : ℕ) → v < 4294967296 → at + 4 ≤ length xs → ys ≡ sets xs at (low_bytes4 v) → PutWord xs ys at v
word-put {xs} {ys} at v small fits e =
    rw e
    (record {
      frame =
          record {
            len = length-sets xs at (low_bytes4 v);
            below = λ k h. written-low32-below xs at v k 0 h;
            above = λ k h. written-low32-above xs at v k 0 h;
          };
      same = read-written-low32 xs at v small fits;
    })

-- the word of one of a slot's values
module _ {xs ys : List ℕ} (at column v : ℕ) (p : PutWord xs ys (at + 8 + 4 * column) v) where
  value-put : (k here : ℕ) → here ≡ at + 8 + 4 * k → low32_at ys here ≡ (if eqb column k then v else low32_at xs here)
  value-put k here q =
      split (eqb column k)
      (λ e. rw (e, q, ← eqb-true column k e) p.same)
      (λ e.
      let apart : column ≡ k → ⊥ = eqb-false column k e in
      rw e
      (split (ltb column k)
      (λ l. word-kept-above p.frame here (omega (arith, ltb-true column k l)))
      (λ l. word-kept-below p.frame here (omega (arith, ltb-false column k l)))))

  pub slot-valued : column < 4 → Stored xs ys at (with_value (slot_at xs at) column v)
  unfolding slot_at with_value
  slot-valued h =
      record {
        frame = frame-wider p.frame (omega arith) (omega arith);
        same =
            rw (
              word-kept-below p.frame at (omega arith),
              word-kept-below p.frame (at + 4) (omega arith),
              value-put 0 (at + 8) (omega arith),
              value-put 1 (at + 12) (omega arith),
              value-put 2 (at + 16) (omega arith),
              value-put 3 (at + 20) (omega arith),
            );
      }

-- the six words of a slot, one after another
module _ (at w : ℕ) (e : Slot) where
  words-put : {x0 x1 x2 x3 x4 x5 x6 : List ℕ} → PutWord x0 x1 at e.handle → PutWord x1 x2 (at + 4) w → PutWord x2 x3 (at + 8) e.v0
      → PutWord x3 x4 (at + 12) e.v1 → PutWord x4 x5 (at + 16) e.v2 → PutWord x5 x6 (at + 20) e.v3
      → w / 16777216 % 256 ≡ e.kind → w / 65536 % 256 ≡ e.mask → w / 256 % 256 ≡ e.table → Stored x0 x6 at e
  unfolding slot_at
  words-put {x0} {x1} {x2} {x3} {x4} {x5} {x6} p1 p2 p3 p4 p5 p6 hk hm ht =
      let g6 : Frame (at + 20) (at + 24) x5 x6 = frame-wider p6.frame (omega arith) (omega arith) in
      let g5 : Frame (at + 16) (at + 24) x4 x6 = frame-join p5.frame g6 (omega arith) (omega arith) (omega arith) (omega arith) in
      let g4 : Frame (at + 12) (at + 24) x3 x6 = frame-join p4.frame g5 (omega arith) (omega arith) (omega arith) (omega arith) in
      let g3 : Frame (at + 8) (at + 24) x2 x6 = frame-join p3.frame g4 (omega arith) (omega arith) (omega arith) (omega arith) in
      let g2 : Frame (at + 4) (at + 24) x1 x6 = frame-join p2.frame g3 (omega arith) (omega arith) (omega arith) (omega arith) in
      record {
        frame = frame-join p1.frame g2 (omega arith) (omega arith) (omega arith) (omega arith);
        same =
            rw (
              word-kept-below g2 at (omega arith) ∙ p1.same,
              word-kept-below g3 (at + 4) (omega arith) ∙ p2.same,
              word-kept-below g4 (at + 8) (omega arith) ∙ p3.same,
              word-kept-below g5 (at + 12) (omega arith) ∙ p4.same,
              word-kept-below g6 (at + 16) (omega arith) ∙ p5.same,
              p6.same,
              hk,
              hm,
              ht,
            );
      }

  pub slot-put : {x0 x1 x2 x3 x4 x5 x6 : List ℕ} → Fits e → w < 4294967296 → at + 24 ≤ length x0
      → x1 ≡ sets x0 at (low_bytes4 e.handle) → x2 ≡ sets x1 (at + 4) (low_bytes4 w) → x3 ≡ sets x2 (at + 8) (low_bytes4 e.v0)
      → x4 ≡ sets x3 (at + 12) (low_bytes4 e.v1) → x5 ≡ sets x4 (at + 16) (low_bytes4 e.v2) → x6 ≡ sets x5 (at + 20) (low_bytes4 e.v3)
      → w / 16777216 % 256 ≡ e.kind → w / 65536 % 256 ≡ e.mask → w / 256 % 256 ≡ e.table → Stored x0 x6 at e
  slot-put {x0} {x1} {x2} {x3} {x4} {x5} {x6} f small fits e1 e2 e3 e4 e5 e6 hk hm ht =
      let p1 = word-put at e.handle f.handle (omega arith) e1 in
      let l1 = p1.frame.len in
      let p2 = word-put (at + 4) w small (omega arith) e2 in
      let l2 = p2.frame.len in
      let p3 = word-put (at + 8) e.v0 f.v0 (omega arith) e3 in
      let l3 = p3.frame.len in
      let p4 = word-put (at + 12) e.v1 f.v1 (omega arith) e4 in
      let l4 = p4.frame.len in
      let p5 = word-put (at + 16) e.v2 f.v2 (omega arith) e5 in
      let l5 = p5.frame.len in
      let p6 = word-put (at + 20) e.v3 f.v3 (omega arith) e6 in
      words-put p1 p2 p3 p4 p5 p6 hk hm ht

-- five words of a slot, read at a place and stored at another with a second word w
pub slot-copied : {x0 x1 x2 x3 x4 x5 x6 : List ℕ} {h v0 v1 v2 v3 : ℕ} (from to w : ℕ) → Bytes x0 → w < 4294967296 → to + 24 ≤ length x0
    → h ≡ low32_at x0 from → v0 ≡ low32_at x0 (from + 8) → v1 ≡ low32_at x0 (from + 12)
    → v2 ≡ low32_at x0 (from + 16) → v3 ≡ low32_at x0 (from + 20)
    → x1 ≡ sets x0 to (low_bytes4 h) → x2 ≡ sets x1 (to + 4) (low_bytes4 w) → x3 ≡ sets x2 (to + 8) (low_bytes4 v0)
    → x4 ≡ sets x3 (to + 12) (low_bytes4 v1) → x5 ≡ sets x4 (to + 16) (low_bytes4 v2) → x6 ≡ sets x5 (to + 20) (low_bytes4 v3)
    → Stored x0 x6 to (with_marks (slot_at x0 from) w)
unfolding slot_at with_marks
slot-copied {x0} {x1} {x2} {x3} {x4} {x5} {x6} from to w b small fits qh q0 q1 q2 q3 eh ew e0 e1 e2 e3 =
    slot-put to w (with_marks (slot_at x0 from) w) (marked-fits w (slot-fits x0 b from)) small fits
    (same x0 to qh eh) ew (same x2 (to + 8) q0 e0)
    (same x3 (to + 12) q1 e1) (same x4 (to + 16) q2 e2) (same x5 (to + 20) q3 e3) refl refl refl
  where
    same : {y : List ℕ} {v w : ℕ} (x : List ℕ) (at : ℕ) → v ≡ w → y ≡ sets x at (low_bytes4 v) → y ≡ sets x at (low_bytes4 w)
    same x at q e = e ∙ ap (λ (u : ℕ). sets x at (low_bytes4 u)) q
