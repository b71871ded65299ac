-- The slots from a place on and the table at a base: their lengths, their slots, and that they stay where a change is outside them.
-- A stored slot takes its place in the list, a stored size makes the table the slots that it counts, and slots whose bytes move up or
-- down are the list's, a place later or earlier; slots whose bytes are copied after others are the list's after theirs.
use mathlib.Core.Path.{◌≡◌, refl, sym, ap, ◌∙◌}
use mathlib.Core.List.{List, [], ◌∷◌, ◌++◌}
use Prim.Native.Nat.{ℕ, zero, suc, ◌+◌, ◌-◌, ◌*◌, ◌/◌, ◌%◌, ◌≤◌, ◌<◌}
use native.Mathlib.Omega.{arith}
use lib.ListN.{length, get_or, take, drop, set, take-append-drop, get_or-eq_default}
use Rattle.words.specs.Words.{Bytes, low32_at}
use Rattle.slots.specs.declared.Slot.{Slot}
use Rattle.slots.specs.Slots.{slot_at, slots_from, table_at, table_bytes, Frame, Stands, Holds, Stored}
use Rattle.slots.specs.Slots.{Alike, MovedUp, MovedDown, Copied, blank, slot_value, with_kind, with_marks, insert_at, remove_at}
use Rattle.slots.proofs.Frames.{frame-wider, frame-join, alike-rest, slot-alike, kept-below, kept_above}
use Rattle.slots.proofs.Frames.{word-kept-below, word-kept-above, Fits, slot-fits, blank-fits, PutWord}

-- ---- The slots from a place on

pub slots_length : (xs : List ℕ) (at n : ℕ) → length (slots_from xs at n) ≡ n
unfolding slots_from
slots_length xs at zero = refl
slots_length xs at (suc n) = ap suc (slots_length xs (at + 24) n)

next-slot : (at i : ℕ) → at + 24 + 24 * i ≡ at + 24 * suc i
next-slot at i = omega arith

pub slots_get : (xs : List ℕ) (at n i : ℕ) → i < n → get_or (slots_from xs at n) i blank ≡ slot_at xs (at + 24 * i)
unfolding slots_from
slots_get xs at zero i h = absurd (omega arith)
slots_get xs at (suc n) zero h = let z : at + 24 * 0 ≡ at = omega arith in rw z
slots_get xs at (suc n) (suc i) h = slots_get xs (at + 24) n i (omega arith) ∙ ap (slot_at xs) (next-slot at i)

pub slots-fit : (xs : List ℕ) → Bytes xs → (at n i : ℕ) → Fits (get_or (slots_from xs at n) i blank)
unfolding slots_from
slots-fit xs b at zero i = blank-fits
slots-fit xs b at (suc n) zero = slot-fits xs b at
slots-fit xs b at (suc n) (suc i) = slots-fit xs b (at + 24) n i

pub slots-take : (xs : List ℕ) (at m n : ℕ) → m ≤ n → take m (slots_from xs at n) ≡ slots_from xs at m
unfolding slots_from
slots-take xs at zero n h = refl
slots-take xs at (suc m) zero h = absurd (omega arith)
slots-take xs at (suc m) (suc n) h = ap (λ (l : List Slot). slot_at xs at ∷ l) (slots-take xs (at + 24) m n (omega arith))

slots-drop : (xs : List ℕ) (at i n : ℕ) → i ≤ n → drop i (slots_from xs at n) ≡ slots_from xs (at + 24 * i) (n - i)
unfolding slots_from
slots-drop xs at zero n h =
    let z : at + 24 * 0 ≡ at = omega arith in
    let q : n - 0 ≡ n = omega arith in
    rw (z, q)
slots-drop xs at (suc i) zero h = absurd (omega arith)
slots-drop xs at (suc i) (suc n) h =
    let q : suc n - suc i ≡ n - i = omega arith in
    rw (q, ← next-slot at i) (slots-drop xs (at + 24) i n (omega arith))

-- the first i slots, and those after them
slots-cut : (xs : List ℕ) (at i n : ℕ) → i ≤ n → slots_from xs at n ≡ slots_from xs at i ++ slots_from xs (at + 24 * i) (n - i)
slots-cut xs at i n h = sym (take-append-drop i (slots_from xs at n)) ∙ rw (slots-take xs at i n h, slots-drop xs at i n h)

-- one slot more at the end
pub slots-more : (xs : List ℕ) (at n : ℕ) → slots_from xs at (n + 1) ≡ slots_from xs at n ++ (slot_at xs (at + 24 * n) ∷ [])
unfolding slots_from
slots-more xs at n =
    let one : n + 1 - n ≡ suc zero = omega arith in
    rw one at (slots-cut xs at n (n + 1) (omega arith))

pub slots-alike : {xs ys : List ℕ} (a b n : ℕ) → Alike xs ys a b (24 * n) → slots_from ys b n ≡ slots_from xs a n
unfolding slots_from
slots-alike a b zero l = refl
slots-alike a b (suc n) l = rw (slot-alike l (omega arith), slots-alike (a + 24) (b + 24) n (alike-rest a b n l))

module _ {lo hi : ℕ} {xs ys : List ℕ} (f : Frame lo hi xs ys) (at n : ℕ) where
  pub slots-kept-below : at + 24 * n ≤ lo → slots_from ys at n ≡ slots_from xs at n
  slots-kept-below h = slots-alike at at n (kept-below f at (24 * n) h)

  pub slots-kept-above : hi ≤ at → slots_from ys at n ≡ slots_from xs at n
  slots-kept-above h = slots-alike at at n (kept_above f at (24 * n) h)

pub slots-put : {xs ys : List ℕ} {e : Slot} (at n i : ℕ) → Stored xs ys (at + 24 * i) e → i < n
    → slots_from ys at n ≡ set (slots_from xs at n) i e
unfolding slots_from
slots-put at zero i p h = absurd (omega arith)
slots-put {xs} {ys} {e} at (suc n) zero p h =
    let z : at + 24 * 0 ≡ at = omega arith in
    let q : Stored xs ys at e = rw z at p in
    rw (q.same, slots-kept-above q.frame (at + 24) n (omega arith))
slots-put {xs} {ys} {e} at (suc n) (suc i) p h =
    let q : Stored xs ys (at + 24 + 24 * i) e = rw (next-slot at i) p in
    rw (slot-alike (kept-below p.frame at 24 (omega arith)) (omega arith), slots-put (at + 24) n i q (omega arith))

-- ---- The table at a base

pub table-length : (xs : List ℕ) (base : ℕ) → length (table_at xs base) ≡ low32_at xs base
unfolding table_at
table-length xs base = slots_length xs (base + 4) (low32_at xs base)

pub table-get : (xs : List ℕ) (base i : ℕ) → i < low32_at xs base → get_or (table_at xs base) i blank ≡ slot_at xs (base + 4 + 24 * i)
unfolding table_at
table-get xs base i h = slots_get xs (base + 4) (low32_at xs base) i h

-- a slot's handle is its first word
pub table-handle : (xs : List ℕ) (base i : ℕ) → i < low32_at xs base
    → (get_or (table_at xs base) i blank).handle ≡ low32_at xs (base + 4 + 24 * i)
unfolding slot_at
table-handle xs base i h = ap (λ (e : Slot). e.handle) (table-get xs base i h)

-- a slot's values stand in its last four words
slot-value : (xs : List ℕ) (at column : ℕ) → column < 4 → low32_at xs (at + 8 + 4 * column) ≡ slot_value (slot_at xs at) column
unfolding slot_at slot_value
slot-value xs at zero h = let q : at + 8 + 4 * 0 ≡ at + 8 = omega arith in rw q
slot-value xs at (suc zero) h = let q : at + 8 + 4 * suc zero ≡ at + 12 = omega arith in rw q
slot-value xs at (suc (suc zero)) h = let q : at + 8 + 4 * suc (suc zero) ≡ at + 16 = omega arith in rw q
slot-value xs at (suc (suc (suc zero))) h = let q : at + 8 + 4 * suc (suc (suc zero)) ≡ at + 20 = omega arith in rw q
slot-value xs at (suc (suc (suc (suc column)))) h = absurd (omega arith)

pub table-value : (xs : List ℕ) (base i column : ℕ) → i < low32_at xs base → column < 4
    → low32_at xs (base + 4 + 24 * i + 8 + 4 * column) ≡ slot_value (get_or (table_at xs base) i blank) column
table-value xs base i column h b = rw (table-get xs base i h) (slot-value xs (base + 4 + 24 * i) column b)

pub no_value : (e : Slot) (column : ℕ) → 4 ≤ column → 0 ≡ slot_value e column
unfolding slot_value
no_value e column h = sym (get_or-eq_default (e.v0 ∷ e.v1 ∷ e.v2 ∷ e.v3 ∷ []) 0 h)

-- a slot with its own second word is as it is; with another top byte of that word it has another kind
module _ (xs : List ℕ) (base i : ℕ) {w : ℕ} (h : i < low32_at xs base) (is : w ≡ low32_at xs (base + 4 + 24 * i + 4)) where
  pub marks-same : with_marks (slot_at xs (base + 4 + 24 * i)) w ≡ get_or (table_at xs base) i blank
  unfolding slot_at with_marks
  marks-same = rw (table-get xs base i h, is)

  pub marks-kind : (k : ℕ) → k < 256
      → with_marks (slot_at xs (base + 4 + 24 * i)) (w % 16777216 + k * 16777216) ≡ with_kind (get_or (table_at xs base) i blank) k
  unfolding slot_at with_marks with_kind
  marks-kind k b =
      let kind : (w % 16777216 + k * 16777216) / 16777216 % 256 ≡ k = omega arith in
      let mask : (w % 16777216 + k * 16777216) / 65536 % 256 ≡ w / 65536 % 256 = omega arith in
      let table : (w % 16777216 + k * 16777216) / 256 % 256 ≡ w / 256 % 256 = omega arith in
      rw (table-get xs base i h, kind, mask, table, is)

pub table_fits_lem : (xs : List ℕ) → Bytes xs → (base i : ℕ) → Fits (get_or (table_at xs base) i blank)
unfolding table_at
table_fits_lem xs b base i = slots-fit xs b (base + 4) (low32_at xs base) i

-- a table outside a frame stays
module _ {lo hi : ℕ} {xs ys : List ℕ} (f : Frame lo hi xs ys) (base most : ℕ) (s : Stands base most xs) where
  pub table-kept-below : base + table_bytes most ≤ lo → table_at ys base ≡ table_at xs base
  unfolding table_at table_bytes
  table-kept-below h =
      let small : low32_at xs base ≤ most = s.size in
      rw (word-kept-below f base (omega arith)) (slots-kept-below f (base + 4) (low32_at xs base) (omega arith))

  pub table-kept-above : hi ≤ base → table_at ys base ≡ table_at xs base
  unfolding table_at
  table-kept-above h = rw (word-kept-above f base h) (slots-kept-above f (base + 4) (low32_at xs base) (omega arith))

  pub stands-kept-below : base + table_bytes most ≤ lo → Stands base most ys
  unfolding table_bytes
  stands-kept-below h =
      record { fits = rw f.len s.fits; size = rw (word-kept-below f base (omega arith)) s.size }

  pub stands-kept-above : hi ≤ base → Stands base most ys
  stands-kept-above h =
      record { fits = rw f.len s.fits; size = rw (word-kept-above f base h) s.size }

-- ---- Changes of a table

-- the size is the length of what is held
pub holds-size : {xs ys : List ℕ} {l : List Slot} (base most : ℕ) → Holds base most xs ys l → low32_at ys base ≡ length l
holds-size {xs} {ys} base most h = sym (table-length ys base) ∙ ap length h.list

-- a change within the table first
pub holds_after : {xs ys zs : List ℕ} {l : List Slot} (base most : ℕ) → Frame base (base + table_bytes most) xs ys
    → Holds base most ys zs l → Holds base most xs zs l
holds_after base most f h =
    record {
      frame = frame-join f h.frame (omega arith) (omega arith) (omega arith) (omega arith);
      stands = h.stands;
      list = h.list;
    }

-- a size that was stored makes the table that many slots
pub resized : {xs ys : List ℕ} {l : List Slot} (base most n : ℕ) → PutWord xs ys base n → n ≤ most
    → base + table_bytes most ≤ length xs → slots_from xs (base + 4) n ≡ l → Holds base most xs ys l
unfolding table_at table_bytes
resized {xs} {ys} {l} base most n p small fits e =
    record {
      frame = frame-wider p.frame (omega arith) (omega arith);
      stands = record { fits = rw p.frame.len fits; size = rw p.same small };
      list = rw p.same (slots-kept-above p.frame (base + 4) n (omega arith) ∙ e);
    }

-- a slot that was stored in the place of another
pub replaced : {xs ys : List ℕ} {e : Slot} (base most i : ℕ) → Stands base most xs → i < low32_at xs base
    → Stored xs ys (base + 4 + 24 * i) e → Holds base most xs ys (set (table_at xs base) i e)
unfolding table_at table_bytes
replaced {xs} {ys} {e} base most i s h p =
    let small : low32_at xs base ≤ most = s.size in
    let head : low32_at ys base ≡ low32_at xs base = word-kept-below p.frame base (omega arith) in
    record {
      frame = frame-wider p.frame (omega arith) (omega arith);
      stands = record { fits = rw p.frame.len s.fits; size = rw head small };
      list = rw head (slots-put (base + 4) (low32_at xs base) i p h);
    }

-- a slot that was stored after the last, and a size one higher
pub pushed : {xs ys zs : List ℕ} {e : Slot} (base most n : ℕ) → Stands base most xs → n ≡ low32_at xs base → n < most
    → Stored xs ys (base + 4 + 24 * n) e → PutWord ys zs base (n + 1) → Holds base most xs zs (table_at xs base ++ (e ∷ []))
unfolding table_at table_bytes
pushed {xs} {ys} {zs} {e} base most n s q room p w =
    let fits : base + table_bytes most ≤ length xs = s.fits in
    let fits' : base + table_bytes most ≤ length ys = rw p.frame.len fits in
    holds_after base most (frame-wider p.frame (omega arith) (omega arith))
    (resized base most (n + 1) w (omega arith) fits'
    (slots-more ys (base + 4) n ∙ rw (slots-kept-below p.frame (base + 4) n (omega arith), p.same, q)))

-- the slots from a place on moved up, a slot stored in the place that is free, and a size one higher
pub inserted : {xs ys zs ws : List ℕ} {e : Slot} (base most n i : ℕ) → Stands base most xs → n ≡ low32_at xs base → n < most → i ≤ n
    → MovedUp xs ys (base + 4 + 24 * i) (24 * (n - i)) → Stored ys zs (base + 4 + 24 * i) e → PutWord zs ws base (n + 1)
    → Holds base most xs ws (insert_at i e (table_at xs base))
unfolding insert_at slots_from table_at table_bytes
inserted {xs} {ys} {zs} {ws} {e} base most n i s q room h u p w =
    let at : ℕ = base + 4 in
    let here : ℕ = base + 4 + 24 * i in
    let f : Frame here (base + table_bytes most) xs zs =
    frame-join u.frame p.frame (omega arith) (omega arith) (omega arith) (omega arith) in
    let one : n + 1 - i ≡ suc (n - i) = omega arith in
    let after : slots_from zs (here + 24) (n - i) ≡ slots_from xs here (n - i) =
    slots-kept-above p.frame (here + 24) (n - i) (omega arith) ∙ slots-alike here (here + 24) (n - i) u.moved in
    holds_after base most (frame-wider f (omega arith) (omega arith))
    (resized base most (n + 1) w (omega arith) (rw f.len s.fits)
    (slots-cut zs at i (n + 1) (omega arith)
    ∙ rw (one, slots-kept-below f at i (omega arith), p.same, after, ← q, slots-take xs at i n h, slots-drop xs at i n h)))

-- the slots after a place moved down to it, and a size one lower
pub removed : {xs ys zs : List ℕ} (base most n i : ℕ) → Stands base most xs → n ≡ low32_at xs base → i < n
    → MovedDown xs ys (base + 4 + 24 * i) (24 * (n - 1 - i)) → PutWord ys zs base (n - 1)
    → Holds base most xs zs (remove_at i (table_at xs base))
unfolding remove_at table_at table_bytes
removed {xs} {ys} {zs} base most n i s q h u w =
    let at : ℕ = base + 4 in
    let here : ℕ = base + 4 + 24 * i in
    let small : low32_at xs base ≤ most = s.size in
    let f : Frame base (base + table_bytes most) xs ys = frame-wider u.frame (omega arith) (omega arith) in
    let less : n - suc i ≡ n - 1 - i = omega arith in
    let next : at + 24 * suc i ≡ here + 24 = omega arith in
    holds_after base most f
    (resized base most (n - 1) w (omega arith) (rw f.len s.fits)
    (slots-cut ys at i (n - 1) (omega arith)
    ∙ rw (
      slots-kept-below u.frame at i (omega arith),
      slots-alike (here + 24) here (n - 1 - i) u.moved,
      ← q,
      slots-take xs at i n (omega arith),
      slots-drop xs at (suc i) n (omega arith),
      less,
      next,
    )))

-- the slots of a table, copied after the first ones of another, and a size that counts both
pub tailed : {xs ys zs : List ℕ} (base most first from n : ℕ) → Stands base most xs → n ≡ low32_at xs from → first ≤ low32_at xs base
    → first + n ≤ most → Copied xs ys (from + 4) (base + 4 + 24 * first) (24 * n) → PutWord ys zs base (first + n)
    → Holds base most xs zs (take first (table_at xs base) ++ table_at xs from)
unfolding table_at table_bytes
tailed {xs} {ys} {zs} base most first from n s q h room u w =
    let at : ℕ = base + 4 in
    let here : ℕ = base + 4 + 24 * first in
    let f : Frame base (base + table_bytes most) xs ys = frame-wider u.frame (omega arith) (omega arith) in
    let rest : first + n - first ≡ n = omega arith in
    holds_after base most f
    (resized base most (first + n) w room (rw f.len s.fits)
    (slots-cut ys at first (first + n) (omega arith)
    ∙ rw (
      rest,
      slots-kept-below u.frame at first (omega arith),
      slots-alike (from + 4) here n u.copied,
      ← q,
      slots-take xs at first (low32_at xs base) h,
    )))
