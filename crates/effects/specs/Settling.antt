-- What was done since the last joining, the stretch, and what waits for a rule are woven into one table: in the spare table from the first
-- change on, and from there in the place of what waits.
use Rattle.std.specs.Prelude.{◌≡◌, List, [], ◌++◌, ℕ, ◌+◌, ◌≤◌, ◌<◌, length, get_or, take, drop}
use Rattle.words.specs.Words.{low32_at}
use Rattle.slots.specs.declared.Slot.{Slot}
use Rattle.slots.specs.Slots.{table_at, table_bytes, Frame, Stands, Holds, Sorted, blank}
use Rattle.room.specs.Room.{SPARE, STRETCH, ENTRIES, wait_at}
use Rattle.room.specs.Joins.{join_slot, kept_slot, join_stretch, settled_at}

-- ---- Of lists alone

-- of a stretch, what is on a table joins what waits, each from a place on
abbrev pub rest : ℕ → List Slot → List Slot → ℕ → ℕ → List Slot
rest table waits stretch i j = join_stretch table (drop j stretch) (drop i waits)

-- both by rising handle, and each of what waits before a place is below each of the stretch from a place on
pub record Passed (waits stretch : List Slot) (i j : ℕ) : Type 0 where
  pub sorted : Sorted waits
  pub rises : Sorted stretch
  pub top : i ≤ length waits
  pub below : (k l : ℕ) → k < i → j ≤ l → l < length stretch → (get_or waits k blank).handle < (get_or stretch l blank).handle

-- ---- Of tables in the room

-- what waits at a base and the stretch stand by rising handle, and the spare table lies below them
pub record Settles (xs : List ℕ) (base : ℕ) : Type 0 where
  pub waits : Stands base ENTRIES xs
  pub stretch : Stands STRETCH ENTRIES xs
  pub apart : SPARE + table_bytes ENTRIES ≤ base
  pub sorted : Sorted (table_at xs base)
  pub rises : Sorted (table_at xs STRETCH)

-- and the spare table stands
pub record Loom (xs : List ℕ) (base : ℕ) : Type 0 where
  pub spare : Stands SPARE ENTRIES xs
  pub waits : Stands base ENTRIES xs
  pub stretch : Stands STRETCH ENTRIES xs
  pub apart : SPARE + table_bytes ENTRIES ≤ base

-- the table of slot j of the stretch
abbrev pub table_in : List ℕ → ℕ → ℕ
table_in xs j = (get_or (table_at xs STRETCH) j blank).table

-- slot i of what waits and slot j of the stretch as one, or nothing
abbrev pub joined_at : List ℕ → ℕ → ℕ → ℕ → List Slot
joined_at xs base i j = kept_slot (join_slot (get_or (table_at xs base) i blank) (get_or (table_at xs STRETCH) j blank)) []

-- what is woven, and what is left to weave
abbrev pub woven : List ℕ → ℕ → ℕ → ℕ → ℕ → List Slot
woven xs base table i j = table_at xs SPARE ++ rest table (table_at xs base) (table_at xs STRETCH) i j

-- what waits before a place, and what is to be woven after it
abbrev pub woven_from : List ℕ → ℕ → ℕ → ℕ → ℕ → List Slot
woven_from xs base table i j = take i (table_at xs base) ++ rest table (table_at xs base) (table_at xs STRETCH) i j

-- slot j of the stretch can be woven next, where what waits goes on at i
pub record Weavable (xs : List ℕ) (base i j : ℕ) : Type 0 where
  pub loom : Loom xs base
  pub within : j < low32_at xs STRETCH
  pub passed : Passed (table_at xs base) (table_at xs STRETCH) i j
  pub fits : length (woven xs base (table_in xs j) i j) ≤ ENTRIES

-- slot j of the stretch is woven, what waits goes on at r, and nothing but the spare table changed
pub record Wove (xs ys : List ℕ) (base table i j r : ℕ) : Type 0 where
  pub frame : Frame SPARE (SPARE + table_bytes ENTRIES) xs ys
  pub stands : Stands SPARE ENTRIES ys
  pub passed : Passed (table_at xs base) (table_at xs STRETCH) r (j + 1)
  pub list : table_at ys SPARE ++ rest table (table_at xs base) (table_at xs STRETCH) r (j + 1) ≡ woven xs base table i j

-- the table at a base now holds a list, and nothing else changed but the spare table, before it
pub record Aside (base : ℕ) (xs ys : List ℕ) (l : List Slot) : Type 0 where
  pub mid : List ℕ
  pub spare : Frame SPARE (SPARE + table_bytes ENTRIES) xs mid
  pub holds : Holds base ENTRIES mid ys l

-- the stretch joined what waits for each active rule, and nothing outside these tables and the spare one changed
pub record WaitsSettled (xs ys tables : List ℕ) : Type 0 where
  pub frame : Frame SPARE STRETCH xs ys
  pub stands : (k : ℕ) → k < 16 → Stands (wait_at k) ENTRIES ys
  pub waits : (k : ℕ) → k < 16 → get_or tables k 0 ≤ 3 → table_at ys (wait_at k) ≡ settled_at xs (wait_at k) (get_or tables k 0)
