-- What a row operation leaves in the room. It changes the live rows and the next handle, which stand in front of all other tables, and then
-- what was done since the last joining, which stands behind them: so that is joined as it was, and what stands between stays.
use Rattle.std.specs.Prelude.{Option, Some, Ok, Err}
use mathlib.Core.Path.{◌≡◌, sym, ◌∙◌}
use mathlib.Core.List.{List, [], ◌∷◌, ◌++◌}
use Prim.Native.Nat.{ℕ, suc, ◌+◌, ◌≤◌, ◌<◌}
use native.Mathlib.Numerals.{add-one}
use native.Mathlib.Omega.{arith}
use borrow.Author.Tests.{lt-ltb, le-ltb}
use lib.ListN.{get_or, set}
use Rattle.words.specs.Words.{low32_at}
use Rattle.slots.specs.declared.Slot.{Slot}
use Rattle.slots.specs.Slots.{table_at, table_bytes, Frame, Stands, Holds, blank, remove_at, find_in}
use Rattle.slots.proofs.Frames.{frame-wider, frame-join, word-kept-below, PutWord}
use Rattle.slots.proofs.Tables.{table-length, table-kept-below, table-kept-above, stands-kept-above}
use Rattle.slots.proofs.Order.{find_at}
use Rattle.room.specs.Room.{NEXT, LIVE, INSERTED, STRETCH, ROWS, ENTRIES, Laid}
use Rattle.room.specs.Joins.{as_effect, join_slots, Takes, Joinable}
use Rattle.room.specs.Turned.{Turned}
use Rattle.room.proofs.Kept.{laid-front, laid-behind}
use Rattle.rows.specs.declared.Reason.TheVariants.{Full, HandlesUsedUp}
use Rattle.rows.specs.Rows.{space_for, row_of, inserted_slot, operation_at, Inserted, CanJoin, Deleted, Updated}

-- what was done since the last joining can take an operation
abbrev pub CanTake : List ℕ → Slot → Type 0
CanTake xs op = Stands STRETCH ENTRIES xs × Takes op (table_at xs STRETCH)

-- and took it
abbrev pub Joined : List ℕ → List ℕ → Slot → Type 0
Joined xs ys op = Holds STRETCH ENTRIES xs ys (join_slots op (table_at xs STRETCH))

-- ---- In front: the live rows and the next handle

pub record Front (xs ys : List ℕ) (live : List Slot) (next : ℕ) : Type 0 where
  pub frame : Frame NEXT INSERTED xs ys
  pub stands : Stands LIVE ROWS ys
  pub rows : table_at ys LIVE ≡ live
  pub handle : low32_at ys NEXT ≡ next

-- a change of the live rows
pub front-held : {xs ys : List ℕ} {live : List Slot} → Holds LIVE ROWS xs ys live → Front xs ys live (low32_at xs NEXT)
unfolding table_bytes
front-held h =
    record {
      frame = frame-wider h.frame (omega arith) (omega arith);
      stands = h.stands;
      rows = h.list;
      handle = word-kept-below h.frame NEXT (omega arith);
    }

-- and then of the next handle
pub front-numbered : {xs ys zs : List ℕ} {live : List Slot} {n m : ℕ} → Front xs ys live n → PutWord ys zs NEXT m → Front xs zs live m
front-numbered f p =
    record {
      frame = frame-join f.frame p.frame (omega arith) (omega arith) (omega arith) (omega arith);
      stands = stands-kept-above p.frame LIVE ROWS f.stands (omega arith);
      rows = table-kept-above p.frame LIVE ROWS f.stands (omega arith) ∙ f.rows;
      handle = p.same;
    }

module _ {xs ys : List ℕ} {live : List Slot} {n : ℕ} (f : Front xs ys live n) where
  -- every table behind it stands as it did
  pub front-laid : Laid xs → Laid ys
  front-laid l = laid-front l f.frame f.stands

  front-stretch : Laid xs → table_at ys STRETCH ≡ table_at xs STRETCH
  front-stretch l = table-kept-above f.frame STRETCH ENTRIES l.stretch (omega arith)

  -- an operation that could join still can
  pub front-takes : {op : Slot} → Joinable xs op → CanTake ys op
  front-takes j = ((front-laid j.laid).stretch, rw (front-stretch j.laid) j.takes)

-- ---- In front, and then behind

pub front-turned : {xs ys zs : List ℕ} {live : List Slot} {n : ℕ} {op : Slot} → Laid xs → Front xs ys live n → Joined ys zs op
    → Turned xs zs live n op
unfolding table_bytes
front-turned l f a =
    record {
      laid = laid-behind (front-laid f l) a.frame a.stands;
      rows = table-kept-below a.frame LIVE ROWS f.stands (omega arith) ∙ f.rows;
      handle = word-kept-below a.frame NEXT (omega arith) ∙ f.handle;
      stretch = rw (← front-stretch f l) a.list;
      between =
          record {
            len = a.frame.len ∙ f.frame.len;
            same = λ i b h. a.frame.below i h ∙ f.frame.above i b;
          };
      beyond =
          record {
            len = a.frame.len ∙ f.frame.len;
            same = λ i b h. a.frame.above i b ∙ f.frame.above i (omega arith);
          };
    }

-- ---- An insert

module _ {xs ys zs : List ℕ} {new : Slot} (h table : ℕ) (e : Slot) (is : h ≡ low32_at xs NEXT) (made : new ≡ row_of h table e)
    (held : Holds LIVE ROWS xs ys (table_at xs LIVE ++ (new ∷ []))) (put : PutWord ys zs NEXT (h + 1)) where
  inserted-is : new ≡ inserted_slot xs table e
  unfolding inserted_slot
  inserted-is = made ∙ rw is

  inserted-front : Front xs zs (table_at xs LIVE ++ (inserted_slot xs table e ∷ [])) (suc (low32_at xs NEXT))
  inserted-front = rw (← inserted-is, ← is, ← add-one h) (front-numbered (front-held held) put)

  module _ {op : Slot} (tells : op ≡ as_effect 1 0 new) (can : Joinable xs (as_effect 1 0 (inserted_slot xs table e))) where
    pub insert-takes : CanTake zs op
    insert-takes = rw (tells, inserted-is) (front-takes inserted-front can)

    pub insert-turned : {ws : List ℕ} → Joined zs ws op → Inserted xs ws table e
    insert-turned a = front-turned can.laid inserted-front (rw (tells, inserted-is) at a)

-- ---- A delete and an update: of the row that was found

module _ (xs : List ℕ) {r : Option ℕ} (h i : ℕ) (asked : r ≡ find_in h (table_at xs LIVE)) (at : r ≡ Some i) where
  found_at : find_in h (table_at xs LIVE) ≡ Some i
  found_at = sym asked ∙ at

  pub found_within : i < low32_at xs LIVE
  found_within = omega (arith, (find_at h (table_at xs LIVE) found_at).0, table-length xs LIVE)

  module _ {ys : List ℕ} {live : List Slot} {old op : Slot} (kind mask : ℕ) (held : Holds LIVE ROWS xs ys live)
      (read : old ≡ get_or (table_at xs LIVE) i blank) (tells : op ≡ as_effect kind mask old) where
    told_is : op ≡ operation_at xs kind mask i
    unfolding operation_at
    told_is = tells ∙ rw read

    pub found-takes : CanJoin xs kind mask (find_in h (table_at xs LIVE)) → CanTake ys op
    found-takes can = rw told_is (front-takes (front-held held) (rw found_at at can))

    pub found-turned : {zs : List ℕ} → Laid xs → Joined ys zs op
        → Turned xs zs live (low32_at xs NEXT) (operation_at xs kind mask i)
    found-turned l a = front-turned l (front-held held) (rw told_is at a)

  pub found-deleted : {zs : List ℕ} → Turned xs zs (remove_at i (table_at xs LIVE)) (low32_at xs NEXT) (operation_at xs 2 0 i)
      → Deleted xs zs (find_in h (table_at xs LIVE)) (Ok tt)
  found-deleted t = rw found_at t

  pub found-updated : (mask : ℕ) (new : Slot) {zs : List ℕ}
      → Turned xs zs (set (table_at xs LIVE) i new) (low32_at xs NEXT) (operation_at xs 3 mask i)
      → Updated xs zs mask new (find_in h (table_at xs LIVE)) (Ok tt)
  found-updated mask new t = rw found_at t

-- ---- Space

module _ (live next n : ℕ) where
  pub space-full : 64 < live + n → Err Full ≡ space_for live next n
  unfolding space_for
  space-full h = rw (lt-ltb 64 (live + n) h)

  pub space-used-up : live + n ≤ 64 → 4294967295 < next + n → Err HandlesUsedUp ≡ space_for live next n
  unfolding space_for
  space-used-up h u = rw (le-ltb 64 (live + n) h, lt-ltb 4294967295 (next + n) u)

  pub space-enough : live + n ≤ 64 → next + n ≤ 4294967295 → Ok tt ≡ space_for live next n
  unfolding space_for
  space-enough h u = rw (le-ltb 64 (live + n) h, le-ltb 4294967295 (next + n) u)
