-- What is worked out for rows, before one changes.
use Rattle.std.specs.Prelude.{◌≡◌, List, [], ◌∷◌, map, ℕ, ◌+◌, ◌<◌, ℤ, get_or, set, Result, Ok, Err, IfErr}
use Rattle.std.proofs.Math.Option.{Option as Maybe, none, some}
use Rattle.meaning.specs.Base.{maybe, each_or}
use Rattle.meaning.specs.Covers.{Row, Expression}
use Rattle.meaning.specs.Processing.Queries.{work_out_all}
use Rattle.meaning.specs.Processing.Actions.{updated_row}
use Rattle.words.specs.Words.{low32_at}
use Rattle.slots.specs.Slots.{table_at, table_bytes, blank, Frame, Stands}
use Rattle.rows.specs.declared.Reason.{Reason}
use Rattle.rows.specs.declared.Reason.TheVariants.{SumOutOfRange}
use Rattle.room.specs.Room.{WORKED, CHOSEN, ROWS, row_meant, rows_meant, rows_with}

-- a row with a value in a column
unfoldable pub with_cell : Row → ℕ → ℤ → Row
with_cell r c v = record { handle = r.handle; table = r.table; values = set r.values c v }

-- a row with the values of expressions over it for the columns of a mask, unless a sum leaves 32 bits
unfoldable pub worked_row : List Expression → ℕ → Row → Maybe Row
worked_row es mask r = maybe (work_out_all es r) none (λ vs. some (updated_row mask vs r))

-- what was worked out, or none where a sum left 32 bits
unfoldable pub if_worked : {A : Type 0} → Result (Unit {0}) Reason → A → Maybe A
if_worked (Ok t) x = some x
if_worked (Err r) x = none

-- nothing else stops it
abbrev pub OutOfRange : Result (Unit {0}) Reason → Type 0
OutOfRange r = IfErr r (λ e. e ≡ SumOutOfRange)

-- only the rows worked out changed
pub record Works (xs ys : List ℕ) : Type 0 where
  pub frame : Frame WORKED (WORKED + table_bytes ROWS) xs ys
  pub stands : Stands WORKED ROWS ys

-- worked row i is chosen row i so far
pub record AsChosen (xs : List ℕ) (i : ℕ) : Type 0 where
  pub chosen : Stands CHOSEN ROWS xs
  pub worked : Stands WORKED ROWS xs
  pub below : i < low32_at xs CHOSEN
  pub within : i < low32_at xs WORKED
  pub same : get_or (table_at xs WORKED) i blank ≡ get_or (table_at xs CHOSEN) i blank

-- the expressions were worked out over chosen row i, for worked row i alone; what that is where a sum left 32 bits is left open
pub record RowWorked (xs ys : List ℕ) (es : List Expression) (mask i : ℕ) (r : Result (Unit {0}) Reason) : Type 0 where
  pub works : Works xs ys
  pub others : table_at ys WORKED ≡ set (table_at xs WORKED) i (get_or (table_at ys WORKED) i blank)
  pub row : if_worked r (row_meant (get_or (table_at ys WORKED) i blank))
      ≡ worked_row es mask (row_meant (get_or (table_at xs CHOSEN) i blank))
  pub stopped : OutOfRange r

-- the expressions were worked out over every chosen row
pub record WorkedOut (xs ys : List ℕ) (es : List Expression) (mask : ℕ) (r : Result (Unit {0}) Reason) : Type 0 where
  pub works : Works xs ys
  pub rows : if_worked r (rows_meant (table_at ys WORKED))
      ≡ maybe (each_or (work_out_all es) (rows_meant (table_at xs CHOSEN))) none (λ vss. some (rows_with mask (rows_meant (table_at xs CHOSEN)) vss))
  pub stopped : OutOfRange r

-- one row of values was worked out
pub record WorkedValues (xs ys : List ℕ) (vs : List ℤ) : Type 0 where
  pub works : Works xs ys
  pub values : map (λ e. (row_meant e).values) (table_at ys WORKED) ≡ vs ∷ []
