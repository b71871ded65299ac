-- What the transition tables show of one effect: each grows, at its end, by the row that the effect shows there, or by nothing.
use Rattle.std.specs.Prelude.{◌≡◌, List, [], ◌++◌, ℕ, ◌+◌, ◌≤◌, length, get_or}
use Rattle.std.proofs.Math.Option.{Option}
use Rattle.meaning.specs.Base.{before}
use Rattle.meaning.specs.Covers.{Row, Rule}
use Rattle.meaning.specs.Processing.TransitionTables.{own_row, inserted_row, deleted_row, new_row, old_row}
use Rattle.words.specs.Words.{low32_at}
use Rattle.slots.specs.declared.Slot.{Slot}
use Rattle.slots.specs.Slots.{table_at, table_bytes, Frame, Stands, Sorted, blank}
use Rattle.room.specs.Room.{LIVE, INSERTED, DELETED, NEW, OLD, CHOSEN, ROWS, row_meant, rows_meant, effect_meant, live_rows}

-- ---- One table

-- the slot i of the table at a base
abbrev pub slot_in : List ℕ → ℕ → ℕ → Slot
slot_in xs base i = get_or (table_at xs base) i blank

-- the row that it holds, if it is of the rule's own table
abbrev pub own_in : Rule → List ℕ → ℕ → ℕ → Option Row
own_in rule xs base i = own_row rule (row_meant (slot_in xs base i))

-- the table at a base has room for a row more, if there is one
pub record RoomFor (base : ℕ) (xs : List ℕ) (o : Option Row) : Type 0 where
  pub stands : Stands base ROWS xs
  pub spare : low32_at xs base + length (before o []) ≤ ROWS

-- the table at a base has a row more at its end, if there is one
pub record Grown (base : ℕ) (xs ys : List ℕ) (o : Option Row) : Type 0 where
  pub stands : Stands base ROWS ys
  pub rows : rows_meant (table_at ys base) ≡ rows_meant (table_at xs base) ++ before o []

-- and nothing else changed
pub record Added (base : ℕ) (xs ys : List ℕ) (o : Option Row) : Type 0 where
  pub frame : Frame base (base + table_bytes ROWS) xs ys
  pub grown : Grown base xs ys o

-- ---- The four tables

-- the live rows stand by rising handle
pub record LiveRises (xs : List ℕ) : Type 0 where
  pub stands : Stands LIVE ROWS xs
  pub sorted : Sorted (table_at xs LIVE)

-- what the effect in a slot shows in each table
module _ (rule : Rule) (rows : List Row) (e : Slot) where
  unfoldable pub inserted_of : Option Row
  inserted_of = inserted_row rule rows e.handle (effect_meant e)

  unfoldable pub deleted_of : Option Row
  deleted_of = deleted_row rule (effect_meant e)

  unfoldable pub new_of : Option Row
  new_of = new_row rule rows e.handle (effect_meant e)

  unfoldable pub old_of : Option Row
  old_of = old_row rule (effect_meant e)

-- each has room for it
pub record RoomForAll (rule : Rule) (e : Slot) (xs : List ℕ) : Type 0 where
  pub inserted : RoomFor INSERTED xs (inserted_of rule (live_rows xs) e)
  pub deleted : RoomFor DELETED xs (deleted_of rule (live_rows xs) e)
  pub new : RoomFor NEW xs (new_of rule (live_rows xs) e)
  pub old : RoomFor OLD xs (old_of rule (live_rows xs) e)

-- each has it at its end, and nothing else changed
pub record Shown (rule : Rule) (e : Slot) (xs ys : List ℕ) : Type 0 where
  pub frame : Frame INSERTED CHOSEN xs ys
  pub inserted : Grown INSERTED xs ys (inserted_of rule (live_rows xs) e)
  pub deleted : Grown DELETED xs ys (deleted_of rule (live_rows xs) e)
  pub new : Grown NEW xs ys (new_of rule (live_rows xs) e)
  pub old : Grown OLD xs ys (old_of rule (live_rows xs) e)

-- ---- Emptying

-- the table at a base holds no row
pub record Bare (base : ℕ) (ys : List ℕ) : Type 0 where
  pub stands : Stands base ROWS ys
  pub none : table_at ys base ≡ []

-- none of the four does, and nothing else changed
pub record AllBare (xs ys : List ℕ) : Type 0 where
  pub frame : Frame INSERTED CHOSEN xs ys
  pub inserted : Bare INSERTED ys
  pub deleted : Bare DELETED ys
  pub new : Bare NEW ys
  pub old : Bare OLD ys
