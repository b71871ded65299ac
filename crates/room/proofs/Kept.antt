-- What stands in a part of the room that is kept stays: a word, a slot, a table, and so the live rows and the transition tables. A room of
-- which one part was written is laid where the tables of that part stand, as those of the other parts do.
use mathlib.Core.Path.{◌≡◌, refl, ap, ◌∙◌}
use mathlib.Core.List.{List}
use Prim.Native.Nat.{ℕ, zero, suc, ◌+◌, ◌*◌, ◌≤◌}
use native.Mathlib.Omega.{arith}
use Rattle.words.specs.Words.{low32_at}
use Rattle.slots.specs.Slots.{slot_at, slots_from, table_at, table_bytes, Frame, Stands}
use Rattle.slots.proofs.Tables.{stands-kept-below, stands-kept-above}
use Rattle.room.specs.Room.{NEXT, LIVE, INSERTED, DELETED, NEW, OLD, CHOSEN, WORKED, WAITS, STRETCH, END, ROWS, ENTRIES, wait_at}
use Rattle.room.specs.Room.{Laid, Kept, rows_meant, live_rows, transition_in}

-- ---- Parts that are kept

pub kept_refl : {lo hi : ℕ} {xs : List ℕ} → Kept lo hi xs xs
kept_refl = record { len = refl; same = λ i a b. refl }

pub kept_trans : {lo hi : ℕ} {xs ys zs : List ℕ} → Kept lo hi xs ys → Kept lo hi ys zs → Kept lo hi xs zs
kept_trans f g = record { len = g.len ∙ f.len; same = λ i a b. g.same i a b ∙ f.same i a b }

-- on both sides of a frame
module _ {lo hi : ℕ} {xs ys : List ℕ} (f : Frame lo hi xs ys) where
  pub kept-below : Kept 0 lo xs ys
  kept-below = record { len = f.len; same = λ i a b. f.below i b }

  pub kept_above : {end : ℕ} → Kept hi end xs ys
  kept_above = record { len = f.len; same = λ i a b. f.above i a }

-- ---- What stands there

module _ {lo hi : ℕ} {xs ys : List ℕ} (k : Kept lo hi xs ys) where
  pub word_kept : (at : ℕ) → lo ≤ at → at + 4 ≤ hi → low32_at ys at ≡ low32_at xs at
  unfolding low32_at
  word_kept at a b =
      rw (
        k.same at (omega arith) (omega arith),
        k.same (at + 1) (omega arith) (omega arith),
        k.same (at + 2) (omega arith) (omega arith),
        k.same (at + 3) (omega arith) (omega arith),
      )

  slot_kept : (at : ℕ) → lo ≤ at → at + 24 ≤ hi → slot_at ys at ≡ slot_at xs at
  unfolding slot_at
  slot_kept at a b =
      rw (
        word_kept at (omega arith) (omega arith),
        word_kept (at + 4) (omega arith) (omega arith),
        word_kept (at + 8) (omega arith) (omega arith),
        word_kept (at + 12) (omega arith) (omega arith),
        word_kept (at + 16) (omega arith) (omega arith),
        word_kept (at + 20) (omega arith) (omega arith),
      )

  slots_kept : (at n : ℕ) → lo ≤ at → at + 24 * n ≤ hi → slots_from ys at n ≡ slots_from xs at n
  unfolding slots_from
  slots_kept at zero a b = refl
  slots_kept at (suc n) a b = rw (slot_kept at a (omega arith), slots_kept (at + 24) n (omega arith) (omega arith))

  pub table_kept : (base most : ℕ) → Stands base most xs → lo ≤ base → base + table_bytes most ≤ hi → table_at ys base ≡ table_at xs base
  unfolding table_at table_bytes
  table_kept base most s a b =
      let small : low32_at xs base ≤ most = s.size in
      rw (word_kept base a (omega arith)) (slots_kept (base + 4) (low32_at xs base) (omega arith) (omega arith))

  module _ (l : Laid xs) where
    pub live-kept : lo ≤ LIVE → INSERTED ≤ hi → live_rows ys ≡ live_rows xs
    unfolding live_rows table_bytes
    live-kept a b = ap rows_meant (table_kept LIVE ROWS l.live a (omega arith))

    pub transition-kept : lo ≤ INSERTED → CHOSEN ≤ hi → transition_in ys ≡ transition_in xs
    unfolding transition_in table_bytes
    transition-kept a b =
        rw (
          table_kept INSERTED ROWS l.inserted (omega arith) (omega arith),
          table_kept DELETED ROWS l.deleted (omega arith) (omega arith),
          table_kept NEW ROWS l.new (omega arith) (omega arith),
          table_kept OLD ROWS l.old (omega arith) (omega arith),
        )

-- ---- Rooms of which one part was written

module _ {xs ys : List ℕ} (l : Laid xs) where
  -- the next handle and the live rows
  pub laid-front : Frame NEXT INSERTED xs ys → Stands LIVE ROWS ys → Laid ys
  laid-front f live =
      record {
        long = rw f.len l.long;
        live = live;
        inserted = stands-kept-above f INSERTED ROWS l.inserted (omega arith);
        deleted = stands-kept-above f DELETED ROWS l.deleted (omega arith);
        new = stands-kept-above f NEW ROWS l.new (omega arith);
        old = stands-kept-above f OLD ROWS l.old (omega arith);
        chosen = stands-kept-above f CHOSEN ROWS l.chosen (omega arith);
        worked = stands-kept-above f WORKED ROWS l.worked (omega arith);
        waits = λ k h. stands-kept-above f (wait_at k) ENTRIES (l.waits k h) (omega arith);
        stretch = stands-kept-above f STRETCH ENTRIES l.stretch (omega arith);
      }

  -- the chosen rows and those worked out
  pub laid-aside : Frame CHOSEN WAITS xs ys → Stands CHOSEN ROWS ys → Stands WORKED ROWS ys → Laid ys
  unfolding table_bytes
  laid-aside f chosen worked =
      record {
        long = rw f.len l.long;
        live = stands-kept-below f LIVE ROWS l.live (omega arith);
        inserted = stands-kept-below f INSERTED ROWS l.inserted (omega arith);
        deleted = stands-kept-below f DELETED ROWS l.deleted (omega arith);
        new = stands-kept-below f NEW ROWS l.new (omega arith);
        old = stands-kept-below f OLD ROWS l.old (omega arith);
        chosen = chosen;
        worked = worked;
        waits = λ k h. stands-kept-above f (wait_at k) ENTRIES (l.waits k h) (omega arith);
        stretch = stands-kept-above f STRETCH ENTRIES l.stretch (omega arith);
      }

  -- what was done since the last joining
  pub laid-behind : Frame STRETCH END xs ys → Stands STRETCH ENTRIES ys → Laid ys
  unfolding table_bytes
  laid-behind f stretch =
      record {
        long = rw f.len l.long;
        live = stands-kept-below f LIVE ROWS l.live (omega arith);
        inserted = stands-kept-below f INSERTED ROWS l.inserted (omega arith);
        deleted = stands-kept-below f DELETED ROWS l.deleted (omega arith);
        new = stands-kept-below f NEW ROWS l.new (omega arith);
        old = stands-kept-below f OLD ROWS l.old (omega arith);
        chosen = stands-kept-below f CHOSEN ROWS l.chosen (omega arith);
        worked = stands-kept-below f WORKED ROWS l.worked (omega arith);
        waits = λ k h. stands-kept-below f (wait_at k) ENTRIES (l.waits k h) (omega arith);
        stretch = stretch;
      }
