-- What drawing the transition tables of a consideration leaves in the working room.
use Rattle.std.specs.Prelude.{◌≡◌, ◌≢◌, List, [], ℕ, ◌≤◌, ◌<◌, length}
use Rattle.meaning.specs.Covers.{Rule}
use Rattle.meaning.specs.Processing.TransitionTables.{Transition, transition}
use Rattle.slots.specs.Slots.{table_at}
use Rattle.room.specs.Room.{NEXT, INSERTED, STRETCH, END, ROWS, wait_at, Laid, Kept, live_rows, transition_in, waits_in}

-- the transition tables of rule k from what waits for it
unfoldable pub drawn_for : List ℕ → ℕ → Rule → Transition
drawn_for xs k rule = transition rule (live_rows xs) (waits_in xs k)

-- none of the four has more than 64 rows
pub record Few (t : Transition) : Type 0 where
  pub inserted : length t.inserted_rows ≤ ROWS
  pub deleted : length t.deleted_rows ≤ ROWS
  pub new : length t.new_updated ≤ ROWS
  pub old : length t.old_updated ≤ ROWS

-- what waited for rule k stands in its transition tables and is emptied; live rows and what waits for others stay
pub record Drew (xs ys : List ℕ) (k : ℕ) (rule : Rule) : Type 0 where
  pub laid : Laid ys
  pub tables : transition_in ys ≡ drawn_for xs k rule
  pub emptied : table_at ys (wait_at k) ≡ []
  pub others : (j : ℕ) → j < 16 → j ≢ k → table_at ys (wait_at j) ≡ table_at xs (wait_at j)
  pub stretch : table_at ys STRETCH ≡ table_at xs STRETCH
  pub before : Kept NEXT INSERTED xs ys
  pub beyond : Kept END (length xs) xs ys
