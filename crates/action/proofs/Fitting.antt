-- What a fitting operation or action says of its parts, by its one constructor, and that a rollback ends the run with nothing changed.
use Rattle.std.specs.Prelude.{Err}
use mathlib.Core.Path.{◌≡◌, refl}
use mathlib.Core.List.{List, []}
use Prim.Native.Nat.{ℕ, ◌≤◌}
use lib.Count.{ones}
use lib.IntN.{ℤ}
use lib.ListN.{length}
use Rattle.meaning.specs.Covers.{insert, update, insert_row, insert_from_query, delete_rows, update_rows, rolled_back, Query, Term, Expression}
use Rattle.meaning.specs.Processing.Actions.{ends}
use Rattle.room.specs.Represents.{Running}
use Rattle.room.proofs.Kept.{kept_refl}
use Rattle.room.proofs.Steps.{made_all-none}
use Rattle.changes.specs.declared.Stop.TheVariants.{RolledBack}
use Rattle.changes.specs.Steps.{Acts, rolls_back}
use Rattle.action.specs.Fit.{FitOperation, insert_fits, update_fits, FitAction, insert_row_fits, insert_from_query_fits, delete_rows_fits}
use Rattle.action.specs.Fit.{update_rows_fits}

pub insert-fits : {t : ℕ} {vs : List ℤ} → FitOperation (insert t vs) → (t ≤ 3) × (length vs ≡ 4)
insert-fits (insert_fits a b) = (a, b)

pub update-fits : {h mask : ℕ} {vs : List ℤ} → FitOperation (update h mask vs) → (mask ≤ 15) × (length vs ≡ ones mask)
update-fits (update_fits a b) = (a, b)

pub insert_row-fits : {t : ℕ} {vs : List ℤ} → FitAction (insert_row t vs) → (t ≤ 3) × (length vs ≡ 4)
insert_row-fits (insert_row_fits a b) = (a, b)

pub insert_from_query-fits : {t : ℕ} {q : Query} {es : List Expression} → FitAction (insert_from_query t q es) → (t ≤ 3) × (length es ≡ 4)
insert_from_query-fits (insert_from_query_fits a b) = (a, b)

pub delete_rows-fits : {t : ℕ} {ts : List Term} → FitAction (delete_rows t ts) → t ≤ 3
delete_rows-fits (delete_rows_fits a) = a

pub update_rows-fits : {t mask : ℕ} {es : List Expression} {ts : List Term} → FitAction (update_rows t mask es ts)
    → (t ≤ 3) × (mask ≤ 15) × (length es ≡ ones mask)
update_rows-fits (update_rows_fits a b c) = (a, b, c)

pub rolled-back : {xs : List ℕ} → Running xs → Acts xs xs (λ m. ends rolled_back []) (Err RolledBack)
rolled-back run =
    record {
      laid = run.represents.laid;
      shown = refl;
      beyond = kept_refl;
      follows = λ tables start s r p. rolls_back {os = []} (rw (made_all-none s) p);
    }
