-- What an operation of the log or an action of a rule leaves in the working room, by what the specification says of it.
use Rattle.std.specs.Prelude.{◌≡◌, List, map, ℕ, length, ℤ, Result as RustResult, Ok, Err}
use Rattle.meaning.specs.Covers as Covers
use Rattle.meaning.specs.Covers.{Image, rolled_back, failed}
use Rattle.meaning.specs.RowOperations.{RowOperation}
use Rattle.meaning.specs.Processing.{State}
use Rattle.meaning.specs.Processing.Actions.{Result, went, ends}
use Rattle.meaning.specs.Processing.Actions.{update_all}
use Rattle.slots.specs.Slots.{table_at}
use Rattle.room.specs.Room.{WORKED, CHOSEN, END, Laid, Kept, row_meant, rows_meant, rows_with, transition_in}
use Rattle.room.specs.Represents.{Represents, Reached, made_all}
use Rattle.rows.specs.declared.Reason.{Reason}
use Rattle.rows.specs.declared.Reason.TheVariants as reason
use Rattle.changes.specs.declared.Stop.{Stop}
use Rattle.changes.specs.declared.Stop.TheVariants.{RolledBack, Failed}

-- it went on, or something ends the run
abbrev pub Step : Type 0
Step = RustResult (Unit {0}) Stop

abbrev pub reason_meant : Reason → Covers.Reason
reason_meant reason.NoSuchRow = Covers.Reason.no_such_row
reason_meant reason.Full = Covers.Reason.full
reason_meant reason.HandlesUsedUp = Covers.Reason.handles_used_up
reason_meant reason.SumOutOfRange = Covers.Reason.sum_out_of_range

-- the room after a result: it went on, or the run ends; either way the room represents the state with the operations made (none where it
-- failed)
pub data Follows (ys tables : List ℕ) (s : State) : Result → Step → Type 0 where
  goes_on : {os : List RowOperation} → Represents ys tables (made_all os s) → Follows ys tables s (went os) (Ok tt)
  rolls_back : {os : List RowOperation} → Represents ys tables (made_all os s) → Follows ys tables s (ends rolled_back os) (Err RolledBack)
  fails : {r : Reason} {os : List RowOperation} → Represents ys tables (made_all os s)
      → Follows ys tables s (ends (failed (reason_meant r)) os) (Err (Failed r))

-- the step that the specification says, for every state that the room represents; transition tables stay, and so does what stands past
-- the tables
pub record Acts (xs ys : List ℕ) (f : Image → Result) (r : Step) : Type 0 where
  pub laid : Laid ys
  pub shown : transition_in ys ≡ transition_in xs
  pub beyond : Kept END (length xs) xs ys
  pub follows : (tables : List ℕ) (start : Image) (s : State) → Reached start s → Represents xs tables s
      → Follows ys tables s (f s.image) r

-- the values of the rows worked out
unfoldable pub values_in : List ℕ → List (List ℤ)
values_in xs = map (λ e. (row_meant e).values) (table_at xs WORKED)

-- the rows worked out are the chosen ones, each with values for the columns of a mask
pub record Rewritten (xs : List ℕ) (mask : ℕ) : Type 0 where
  pub values : List (List ℤ)
  pub each : length values ≡ length (table_at xs CHOSEN)
  pub rows : rows_meant (table_at xs WORKED) ≡ rows_with mask (rows_meant (table_at xs CHOSEN)) values

-- the update of the chosen rows, for whatever values they were worked out from
pub record UpdatesAll (xs ys : List ℕ) (mask : ℕ) : Type 0 where
  pub acts : (vss : List (List ℤ)) → length vss ≡ length (table_at xs CHOSEN)
      → rows_meant (table_at xs WORKED) ≡ rows_with mask (rows_meant (table_at xs CHOSEN)) vss
      → Acts xs ys (λ m. update_all mask (rows_meant (table_at xs CHOSEN)) vss) (Ok tt)
