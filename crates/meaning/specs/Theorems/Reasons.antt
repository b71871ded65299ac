-- Reasons: when an operation of the log or an action of a rule fails, and with which reason.
use Rattle.std.specs.Prelude.{◌≡◌, ◌↔◌, ◌≢◌, List, [], ℕ, suc, ◌+◌, ◌<◌, ℤ, pos, negsuc, ◌+ℤ◌, length}
use Rattle.meaning.specs.Base.{◌∈◌, Each}
use Rattle.meaning.specs.Covers.{most_rows, last_handle, Row, Image, Expression, Action, LogOperation, Reason, failed}
use Rattle.meaning.specs.Covers.{fixed, column, sum, rollback, insert_row, insert_from_query, delete_rows, update_rows}
use Rattle.meaning.specs.Covers.{insert, delete, update, no_such_row, full, handles_used_up, sum_out_of_range}
use Rattle.meaning.specs.RowOperations.{RowOperation}
use Rattle.meaning.specs.Processing.TransitionTables.{Transition}
use Rattle.meaning.specs.Processing.Queries.{cell, chosen}
use Rattle.meaning.specs.Processing.Actions.{Result, ends, rows_of, operate, perform}
use Rattle.meaning.specs.Trace.{Point}
use Rattle.meaning.specs.Runs.{Accepted, ending_of, image_after}

-- a number leaves 32 bits: above 2147483647, or below -2147483648
abbrev pub Leaves32 : ℤ → Type 0
Leaves32 (pos n) = 2147483647 < n
Leaves32 (negsuc n) = 2147483648 < suc n

-- an expression is a sum, and for this row it leaves 32 bits
abbrev pub SumLeaves : Row → Expression → Type 0
SumLeaves x (fixed v) = ⊥
SumLeaves x (column c) = ⊥
SumLeaves x (sum c v) = Leaves32 (cell x c +ℤ v)

-- a row of which some expression does
abbrev pub Stops : List Expression → Row → Type 0
Stops es x = (e : Expression) × (e ∈ es) × SumLeaves x e

-- "a sum of a chosen row leaves 32 bits"
abbrev pub SomeStops : List Expression → List Row → Type 0
SomeStops es xs = (x : Row) × (x ∈ xs) × Stops es x

module _ (m : Image) where
  -- "a lookup by handle that finds nothing": no live row has the handle
  abbrev pub NoRow : ℕ → Type 0
  NoRow h = Each (λ x. x.handle ≢ h) m.rows

  -- "live rows plus rows to insert pass 64"
  abbrev pub TooMany : ℕ → Type 0
  TooMany n = most_rows < length m.rows + n

  -- "the next handle plus rows to insert passes 4294967295"
  abbrev pub UsedUp : ℕ → Type 0
  UsedUp n = last_handle < m.next + n

  -- when each reason is due, where a row may be missing, a sum may leave 32 bits, and there are n rows to insert: 4 is tried before 2,
  -- and 2 before 3
  abbrev pub Due : (missing leaves : Type 0) → ℕ → Reason → Type 0
  Due missing leaves n no_such_row = missing
  Due missing leaves n sum_out_of_range = leaves
  Due missing leaves n full = (¬ leaves) × TooMany n
  Due missing leaves n handles_used_up = (¬ leaves) × (¬ TooMany n) × UsedUp n

  -- of an operation of the log, which has no sums
  abbrev pub DueInLog : LogOperation → Reason → Type 0
  DueInLog (insert t vs) = Due ⊥ ⊥ 1
  DueInLog (delete h) = Due (NoRow h) ⊥ 0
  DueInLog (update h mask vs) = Due (NoRow h) ⊥ 0

  -- of an action with its transition tables, which looks no handle up
  abbrev pub DueInAction : Transition → Action → Reason → Type 0
  DueInAction t rollback = Due ⊥ ⊥ 0
  DueInAction t (insert_row n vs) = Due ⊥ ⊥ 1
  DueInAction t (insert_from_query n q es) = Due ⊥ (SomeStops es (chosen t m.rows q)) (length (chosen t m.rows q))
  DueInAction t (delete_rows n ts) = Due ⊥ ⊥ 0
  DueInAction t (update_rows n mask es ts) = Due ⊥ (SomeStops es (chosen t m.rows (rows_of n ts))) 0

pub record FailsWhen (due : Reason → Type 0) (result : Result) : Type 0 where
  -- it ends the run with a reason exactly when that reason is due
  pub exactly : (r : Reason) → (result ≡ ends (failed r) []) ↔ due r
  -- "A failing action changes no row", and the first operation of the log that fails changes nothing
  pub changes_none : (r : Reason) (os : List RowOperation) → result ≡ ends (failed r) os → os ≡ []

module _ {image book log : List ℕ} (a : Accepted image book log) where
  pub record Reasons : Type 0 where
    -- at every point of a run
    pub of_log : (p : Point (ending_of a)) (q : LogOperation)
        → let m = image_after a p.before in FailsWhen (DueInLog m q) (operate q m)
    pub of_actions : (p : Point (ending_of a)) (t : Transition) (act : Action)
        → let m = image_after a p.before in FailsWhen (DueInAction m t act) (perform t act m)
    -- "only the log can meet it": a run that ends with reason 1 ends before any rule is considered
    pub only_log : (ending_of a).outcome ≡ failed no_such_row → (ending_of a).count ≡ 0
