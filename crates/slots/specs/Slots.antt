-- Tables of slots in a room of bytes: what they hold, and what a change of one leaves as it was.
use Rattle.std.specs.Prelude.{◌≡◌, Bool, false, List, [], ◌∷◌, ◌++◌, ℕ, zero, suc, ◌+◌, ◌*◌, ◌/◌, ◌%◌, ◌≤◌, ◌<◌, length, get_or, take, drop, eqb, ltb, if◌then◌else◌, Option, Some, None}
use Rattle.words.specs.Words.{low32_at}
use Rattle.slots.specs.declared.Slot.{Slot}

-- the slot in the 24 bytes from a place: handle; kind, mask and table in one word; four values
unfoldable pub slot_at : List ℕ → ℕ → Slot
slot_at xs at =
    record {
      handle = low32_at xs at;
      kind = low32_at xs (at + 4) / 16777216 % 256;
      mask = low32_at xs (at + 4) / 65536 % 256;
      table = low32_at xs (at + 4) / 256 % 256;
      v0 = low32_at xs (at + 8);
      v1 = low32_at xs (at + 12);
      v2 = low32_at xs (at + 16);
      v3 = low32_at xs (at + 20);
    }

-- n slots from a place on
unfoldable pub slots_from : List ℕ → ℕ → ℕ → List Slot
slots_from xs at zero = []
slots_from xs at (suc n) = slot_at xs at ∷ slots_from xs (at + 24) n

-- the table at a base: its size, then its slots
unfoldable pub table_at : List ℕ → ℕ → List Slot
table_at xs base = slots_from xs (base + 4) (low32_at xs base)

-- the bytes of a table with room for `most` slots
unfoldable pub table_bytes : ℕ → ℕ
table_bytes most = 4 + 24 * most

-- ys is xs but for the places from lo up to, not including, hi
pub record Frame (lo hi : ℕ) (xs ys : List ℕ) : Type 0 where
  pub len : length ys ≡ length xs
  pub below : (k : ℕ) → k < lo → get_or ys k 0 ≡ get_or xs k 0
  pub above : (k : ℕ) → hi ≤ k → get_or ys k 0 ≡ get_or xs k 0

-- a table with room for `most` slots stands at a base
pub record Stands (base most : ℕ) (xs : List ℕ) : Type 0 where
  pub fits : base + table_bytes most ≤ length xs
  pub size : low32_at xs base ≤ most

-- the table at a base now holds a list, and nothing else changed
pub record Holds (base most : ℕ) (xs ys : List ℕ) (l : List Slot) : Type 0 where
  pub frame : Frame base (base + table_bytes most) xs ys
  pub stands : Stands base most ys
  pub list : table_at ys base ≡ l

-- the slot in the bytes from a place was stored, and nothing else changed
pub record Stored (xs ys : List ℕ) (at : ℕ) (e : Slot) : Type 0 where
  pub frame : Frame at (at + 24) xs ys
  pub same : slot_at ys at ≡ e

-- the n bytes of ys from b on are those of xs from a on
pub record Alike (xs ys : List ℕ) (a b n : ℕ) : Type 0 where
  pub same : (j : ℕ) → j < n → get_or ys (b + j) 0 ≡ get_or xs (a + j) 0

-- the n bytes from a place on moved up by a slot, and nothing else changed
pub record MovedUp (xs ys : List ℕ) (at n : ℕ) : Type 0 where
  pub frame : Frame (at + 24) (at + 24 + n) xs ys
  pub moved : Alike xs ys at (at + 24) n

-- the n bytes from a slot after a place on moved down to it, and nothing else changed
pub record MovedDown (xs ys : List ℕ) (at n : ℕ) : Type 0 where
  pub frame : Frame at (at + n) xs ys
  pub moved : Alike xs ys (at + 24) at n

-- the n bytes from a place on stand once more at another, and nothing else changed
pub record Copied (xs ys : List ℕ) (from to n : ℕ) : Type 0 where
  pub frame : Frame to (to + n) xs ys
  pub copied : Alike xs ys from to n

abbrev pub blank : Slot
blank = record { handle = 0; kind = 0; mask = 0; table = 0; v0 = 0; v1 = 0; v2 = 0; v3 = 0 }

-- the value of a slot in a column; past the last column it is 0
unfoldable pub slot_value : Slot → ℕ → ℕ
slot_value e c = get_or (e.v0 ∷ e.v1 ∷ e.v2 ∷ e.v3 ∷ []) c 0

-- the slot with another value in a column; past the last column as it is
unfoldable pub with_value : Slot → ℕ → ℕ → Slot
with_value e c v =
    record {
      handle = e.handle;
      kind = e.kind;
      mask = e.mask;
      table = e.table;
      v0 = if eqb c 0 then v else e.v0;
      v1 = if eqb c 1 then v else e.v1;
      v2 = if eqb c 2 then v else e.v2;
      v3 = if eqb c 3 then v else e.v3;
    }

-- the slot with another kind
unfoldable pub with_kind : Slot → ℕ → Slot
with_kind e k =
    record {
      handle = e.handle;
      kind = k;
      mask = e.mask;
      table = e.table;
      v0 = e.v0;
      v1 = e.v1;
      v2 = e.v2;
      v3 = e.v3;
    }

-- the slot with the kind, mask and table of another word
unfoldable pub with_marks : Slot → ℕ → Slot
with_marks e w =
    record {
      handle = e.handle;
      kind = w / 16777216 % 256;
      mask = w / 65536 % 256;
      table = w / 256 % 256;
      v0 = e.v0;
      v1 = e.v1;
      v2 = e.v2;
      v3 = e.v3;
    }

unfoldable pub insert_at : ℕ → Slot → List Slot → List Slot
insert_at i e l = take i l ++ (e ∷ drop i l)

unfoldable pub remove_at : ℕ → List Slot → List Slot
remove_at i l = take i l ++ drop (suc i) l

-- by rising handle
pub record Sorted (l : List Slot) : Type 0 where
  pub rises : (i j : ℕ) → i < j → j < length l → (get_or l i blank).handle < (get_or l j blank).handle

-- how many slots at the front have a handle below h
unfoldable pub place_in : ℕ → List Slot → ℕ
place_in h [] = 0
place_in h (e ∷ l) = if ltb e.handle h then suc (place_in h l) else 0

-- is the slot at i, of those there are, the one of the handle h
unfoldable pub hit : ℕ → ℕ → List Slot → Bool
hit h i l = if ltb i (length l) then eqb (get_or l i blank).handle h else false

-- where the slot of the handle h is
unfoldable pub find_in : ℕ → List Slot → Option ℕ
find_in h l =
    if ltb (place_in h l) (length l) then (if eqb (get_or l (place_in h l) blank).handle h then Some (place_in h l) else None) else None
