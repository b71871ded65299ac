-- Performs: what an operation of the log or an action of a rule makes where it does not fail.
use Rattle.std.specs.Prelude.{◌≡◌, List, [], ◌∷◌, map, ℕ, ◌+◌, ◌%◌, ◌^◌, ℤ, pos, ◌+ℤ◌, length, get_or, if◌then◌else◌}
use Rattle.std.proofs.Math.Option.{some}
use Rattle.std.specs.Int.Count.{ones}
use Rattle.std.proofs.Math.ListN.{get_elem?}
use Rattle.meaning.specs.Base.{bit, ◌∈◌}
use Rattle.meaning.specs.Covers.{Row, Image, Rule, Expression, Action, LogOperation, Reason, insert, delete, update}
use Rattle.meaning.specs.Covers.{fixed, column, sum, rollback, insert_row, insert_from_query, delete_rows, update_rows, rolled_back, failed}
use Rattle.meaning.specs.RowOperations.{RowOperation, inserts, deletes, updates}
use Rattle.meaning.specs.Processing.TransitionTables.{Transition}
use Rattle.meaning.specs.Processing.Queries.{cell, chosen}
use Rattle.meaning.specs.Processing.Actions.{Result, went, ends, rows_of, operate, perform}
use Rattle.meaning.specs.Trace.{Point}
use Rattle.meaning.specs.Runs.{Accepted, ending_of, numbered, image_after}

-- what an expression is worth for a row
abbrev pub worth : Row → Expression → ℤ
worth x (fixed v) = v
worth x (column c) = cell x c
worth x (sum c v) = cell x c +ℤ v

-- column c after an update: values come "lowest first", so before that of c stands one for each set bit below c; other columns stay
abbrev pub cell_after : ℕ → List ℤ → Row → ℕ → ℤ
cell_after mask vs x c = if bit mask c then get_or vs (ones (mask % 2 ^ c)) (pos 0) else cell x c

-- the row after it
abbrev pub row_after : ℕ → List ℤ → Row → Row
row_after mask vs x = record { handle = x.handle; table = x.table; values = map (cell_after mask vs x) (0 ∷ 1 ∷ 2 ∷ 3 ∷ []) }

-- one operation for each of these rows, in order: where row x stands at place k, there stands `operation k x`
pub record OneEach (xs : List Row) (operation : ℕ → Row → RowOperation) (os : List RowOperation) : Type 0 where
  pub as_many : length os ≡ length xs
  pub each : (k : ℕ) (x : Row) → get_elem? xs k ≡ some x → get_elem? os k ≡ some (operation k x)

-- the run goes on with row operations of which this is so; or it ends, with one of the reasons and no operation (when: Reasons)
pub data GoesOn (so : List RowOperation → Type 0) : Result → Type 0 where
  goes : {os : List RowOperation} → so os → GoesOn so (went os)
  stops : {r : Reason} → GoesOn so (ends (failed r) [])

module _ (m : Image) where
  -- "An insert takes the next handle, which then rises by one": so the row at place k of those to insert takes this one
  abbrev pub inserts_at : ℕ → ℕ → List ℤ → RowOperation
  inserts_at n k vs = inserts (record { handle = m.next + k; table = n; values = vs })

  -- an operation of the log, where x is the live row that has its handle
  abbrev pub LogMakes : LogOperation → List RowOperation → Type 0
  LogMakes (insert n vs) os = os ≡ inserts_at n 0 vs ∷ []
  LogMakes (delete h) os = (x : Row) × (x ∈ m.rows) × (x.handle ≡ h) × (os ≡ deletes x ∷ [])
  LogMakes (update h mask vs) os = (x : Row) × (x ∈ m.rows) × (x.handle ≡ h) × (os ≡ updates mask x (row_after mask vs x) ∷ [])

  -- an action with its transition tables: rows are chosen, and expressions worked out, from the image as it is before the action
  abbrev pub ActionGives : Transition → Action → Result → Type 0
  ActionGives t rollback = λ x. x ≡ ends rolled_back []
  ActionGives t (insert_row n vs) = GoesOn (λ os. os ≡ inserts_at n 0 vs ∷ [])
  ActionGives t (insert_from_query n q es) = GoesOn (OneEach (chosen t m.rows q) (λ k x. inserts_at n k (map (worth x) es)))
  ActionGives t (delete_rows n ts) = GoesOn (OneEach (chosen t m.rows (rows_of n ts)) (λ k x. deletes x))
  ActionGives t (update_rows n mask es ts) =
      GoesOn (OneEach (chosen t m.rows (rows_of n ts)) (λ k x. updates mask x (row_after mask (map (worth x) es) x)))

module _ {image book log : List ℕ} (a : Accepted image book log) where
  pub record Performs : Type 0 where
    -- at every point of a run: an operation of its log, and an action of a rule of its book, by whatever transition tables
    pub of_log : (p : Point (ending_of a)) (q : LogOperation) → q ∈ a.operations
        → let m = image_after a p.before in GoesOn (LogMakes m q) (operate q m)
    pub of_actions : (p : Point (ending_of a)) (t : Transition) (k : ℕ) (r : Rule) (act : Action) → numbered a k ≡ some r → act ∈ r.actions
        → let m = image_after a p.before in ActionGives m t act (perform t act m)
