-- Performs: the parsers give an update as many values as its mask has set bits, and at every point of a run the rows are proper.
use mathlib.Core.Path.{refl}
use mathlib.Core.List.{List}
use Prim.Native.Nat.{ℕ}
use Rattle.meaning.specs.Covers.{Image, Action, LogOperation, rollback, insert_row, insert_from_query, delete_rows, update_rows}
use Rattle.meaning.specs.Covers.{insert, delete, update}
use Rattle.meaning.specs.Processing.TransitionTables.{Transition}
use Rattle.meaning.specs.Processing.Actions.{operate, perform}
use Rattle.meaning.specs.Made.{Sound}
use Rattle.meaning.specs.Runs.{Accepted, image_after}
use Rattle.meaning.specs.Theorems.Performs.{GoesOn, LogMakes, ActionGives, Performs}
use Rattle.meaning.proofs.Lists.{each-element}
use Rattle.meaning.proofs.Images.{rising-proper}
use Rattle.meaning.proofs.ActionResults.{insert-one, log-deletes, log-updates, action-inserts, action-deletes, action-updates}
use Rattle.meaning.proofs.ActionsFit.{GoodOperation, good_update, GoodAction, good_update_rows}
use Rattle.meaning.proofs.RunsFit.{run-rules, run-log}
use Rattle.meaning.proofs.Shows.{each_in}
use Rattle.meaning.proofs.Admitted.{admitted}

module _ (m : Image) (sound : Sound m) where
  log-makes : (q : LogOperation) → GoodOperation q → GoesOn (LogMakes m q) (operate q m)
  unfolding operate
  log-makes (insert n vs) good = insert-one n vs m
  log-makes (delete h) good = log-deletes m h
  log-makes (update h mask vs) (good_update i as_many_lem g) = log-updates m h mask vs as_many_lem (rising-proper sound.rises)

  action-gives : (t : Transition) (act : Action) → GoodAction act → ActionGives m t act (perform t act m)
  unfolding perform
  action-gives t rollback good = refl
  action-gives t (insert_row n vs) good = insert-one n vs m
  action-gives t (insert_from_query n q es) good = action-inserts m t n q es
  action-gives t (delete_rows n ts) good = action-deletes m t n ts
  action-gives t (update_rows n mask es ts) (good_update_rows i as_many_lem g) =
      action-updates m t n mask es ts as_many_lem (rising-proper sound.rises)

pub performs : {image book log : List ℕ} (a : Accepted image book log) → Performs a
performs a =
    record {
      of_log = λ p q i. log-makes (image_after a p.before) ((admitted a).sound p) q (each_in (run-log a) q i);
      of_actions = λ p t k r act e i.
          action-gives (image_after a p.before) ((admitted a).sound p) t act
          (each_in (each-element k (run-rules a) e).actions_good act i);
    }
