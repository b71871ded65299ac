-- What a well-formed log and book say of their operations and actions: as many values and expressions as columns, tables 0..3.
use Rattle.std.specs.Prelude.{◌≡◌, List, ℕ, ◌≤◌, ℤ, length}
use Rattle.std.specs.Int.Count.{ones}
use Rattle.meaning.specs.Covers.{LogOperation, insert, delete, update, Action, rollback, insert_row, insert_from_query, delete_rows, update_rows}
use Rattle.meaning.specs.Covers.{Query, Term, Expression}

pub data FitOperation : LogOperation → Type 0 where
  insert_fits : {t : ℕ} {vs : List ℤ} → t ≤ 3 → length vs ≡ 4 → FitOperation (insert t vs)
  delete_fits : {h : ℕ} → FitOperation (delete h)
  update_fits : {h mask : ℕ} {vs : List ℤ} → mask ≤ 15 → length vs ≡ ones mask → FitOperation (update h mask vs)

pub data FitAction : Action → Type 0 where
  rollback_fits : FitAction rollback
  insert_row_fits : {t : ℕ} {vs : List ℤ} → t ≤ 3 → length vs ≡ 4 → FitAction (insert_row t vs)
  insert_from_query_fits : {t : ℕ} {q : Query} {es : List Expression} → t ≤ 3 → length es ≡ 4 → FitAction (insert_from_query t q es)
  delete_rows_fits : {t : ℕ} {ts : List Term} → t ≤ 3 → FitAction (delete_rows t ts)
  update_rows_fits : {t mask : ℕ} {es : List Expression} {ts : List Term} → t ≤ 3 → mask ≤ 15 → length es ≡ ones mask
      → FitAction (update_rows t mask es ts)
