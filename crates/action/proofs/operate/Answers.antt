-- `action::operate` meets its contract: each operation of the log is done by the function for it.
use Rattle.meaning.specs.Processing.Actions as Actions
use Rattle.action.proofs.Fitting.{insert-fits, update-fits}
use Rattle.action.proofs.operate.Goals as goal

pub insert_values-requires : goal.insert_values-requires
insert_values-requires c =
    let fit = insert-fits (rw c.in-Insert.is at c.requires.fit_operation) in
    record {
      running = c.requires.running;
      table_bound = fit.0;
      values_len = fit.1;
    }

pub update_one-requires : goal.update_one-requires
update_one-requires c =
    let fit = update-fits (rw c.in-Update.is at c.requires.fit_operation) in
    record {
      running = c.requires.running;
      mask_bound = fit.0;
      values_len = fit.1;
    }

pub returns-in-Insert : goal.returns-in-Insert
unfolding Actions.operate
returns-in-Insert c =
    rw c.in-Insert.is c.insert_values.ensures

pub returns-in-Delete : goal.returns-in-Delete
returns-in-Delete c =
    rw c.in-Delete.is c.delete_one.ensures

pub returns-in-Update : goal.returns-in-Update
returns-in-Update c =
    rw c.in-Update.is c.update_one.ensures
