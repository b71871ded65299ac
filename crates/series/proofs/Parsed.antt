-- An operation or action that the specification's parser gives fits, wherever it stands: each of its parts was read by a parser that
-- admits nothing else.
use Rattle.std.specs.Prelude.{Option, Some, None}
use mathlib.Core.Path.{◌≡◌}
use mathlib.Core.List.{List}
use Prim.Native.Nat.{ℕ}
use lib.Dec.{eqb}
use lib.Count.{ones}
use Rattle.meaning.specs.Reading.{bad, got, byte, number32}
use Rattle.meaning.specs.ByteLayouts as ByteLayouts
use Rattle.meaning.specs.ByteLayouts.{terms, query, operation, action}
use Rattle.meaning.proofs.RunsFit.{Gives, bind-gives, past-gives, pure-gives, malformed-gives, if-gives, many-gives, mask-gives}
use Rattle.meaning.proofs.RunsFit.{values-give, table-gives, expression-gives}
use Rattle.transaction_log.specs.declared.Operation.{Operation}
use Rattle.transaction_log.specs.Log.{operation_meant, operation_or}
use Rattle.book.specs.declared.Action as book
use Rattle.book.specs.Books.{action_meant, action_or}
use Rattle.action.specs.Fit.{FitOperation, insert_fits, delete_fits, update_fits, FitAction, rollback_fits, insert_row_fits, insert_from_query_fits}
use Rattle.action.specs.Fit.{delete_rows_fits, update_rows_fits}

-- ---- An operation of the log

insertion-fits : Gives ByteLayouts.insertion FitOperation
unfolding ByteLayouts.insertion
insertion-fits = bind-gives table-gives (λ t p. bind-gives (values-give 4) (λ vs q. pure-gives (insert_fits p.1 q.0)))

deletion-fits : Gives ByteLayouts.deletion FitOperation
unfolding ByteLayouts.deletion
deletion-fits = past-gives number32 (λ h. pure-gives delete_fits)

change-fits : Gives ByteLayouts.change FitOperation
unfolding ByteLayouts.change
change-fits =
    past-gives number32 (λ h. bind-gives mask-gives (λ m b. bind-gives (values-give (ones m)) (λ vs q.
    pure-gives (update_fits b.1 q.0))))

pub operation-fits : Gives operation FitOperation
unfolding ByteLayouts.operation ByteLayouts.operation_of
operation-fits =
    past-gives byte (λ n.
    if-gives (eqb n 1) insertion-fits (if-gives (eqb n 2) deletion-fits (if-gives (eqb n 3) change-fits malformed-gives)))

-- what the decoder's answer says of the parser
pub operation-read : (s : List ℕ) (at : ℕ) {r : Option (Operation × ℕ)} {q : Operation} {next : ℕ} → operation_or s r ≡ operation s at
    → r ≡ Some (q, next) → operation s at ≡ got (operation_meant s q) next
operation-read s at e told = rw (← e, told)

pub operation-unread : (s : List ℕ) (at : ℕ) {r : Option (Operation × ℕ)} → operation_or s r ≡ operation s at → r ≡ None
    → operation s at ≡ bad
operation-unread s at e told = rw (← e, told)

-- ---- An action of a rule

module _ (triggers : ℕ) where
  insert_row-fits : Gives (ByteLayouts.insert_row triggers) FitAction
  unfolding ByteLayouts.insert_row
  insert_row-fits = bind-gives table-gives (λ t p. bind-gives (values-give 4) (λ vs q. pure-gives (insert_row_fits p.1 q.0)))

  insert_from_query-fits : Gives (ByteLayouts.insert_from_query triggers) FitAction
  unfolding ByteLayouts.insert_from_query
  insert_from_query-fits =
      bind-gives table-gives (λ t p. past-gives (query triggers) (λ q.
      bind-gives (many-gives 4 expression-gives) (λ es c. pure-gives (insert_from_query_fits p.1 c.0))))

  delete_rows-fits : Gives (ByteLayouts.delete_rows triggers) FitAction
  unfolding ByteLayouts.delete_rows
  delete_rows-fits = bind-gives table-gives (λ t p. past-gives (terms triggers) (λ ts. pure-gives (delete_rows_fits p.1)))

  update_rows-fits : Gives (ByteLayouts.update_rows triggers) FitAction
  unfolding ByteLayouts.update_rows
  update_rows-fits =
      bind-gives table-gives (λ t p. bind-gives mask-gives (λ m b.
      bind-gives (many-gives (ones m) expression-gives) (λ es c.
      past-gives (terms triggers) (λ ts. pure-gives (update_rows_fits p.1 b.1 c.0)))))

  pub action-fits : Gives (action triggers) FitAction
  unfolding ByteLayouts.action ByteLayouts.action_of
  action-fits =
      past-gives byte (λ n.
      if-gives (eqb n 0) (pure-gives rollback_fits) (if-gives (eqb n 1) insert_row-fits (if-gives (eqb n 2) insert_from_query-fits
      (if-gives (eqb n 3) delete_rows-fits (if-gives (eqb n 4) update_rows-fits malformed-gives)))))

-- what the decoder's answer says of the parser
pub action-read : (s : List ℕ) (triggers at : ℕ) {r : Option (book.Action × ℕ)} {a : book.Action} {next : ℕ}
    → action_or s triggers r ≡ action triggers s at → r ≡ Some (a, next) → action triggers s at ≡ got (action_meant s triggers a) next
action-read s triggers at e told = rw (← e, told)

pub action-unread : (s : List ℕ) (triggers at : ℕ) {r : Option (book.Action × ℕ)} → action_or s triggers r ≡ action triggers s at
    → r ≡ None → action triggers s at ≡ bad
action-unread s triggers at e told = rw (← e, told)
