-- `action::perform` meets its contract: each action of a rule is done by the function for it; a rollback changes nothing.
use Rattle.meaning.specs.Processing.Actions as Actions
use Rattle.action.proofs.Fitting.{insert_row-fits, insert_from_query-fits, delete_rows-fits, update_rows-fits, rolled-back}
use Rattle.action.proofs.perform.Goals as goal

pub insert_values-requires : goal.insert_values-requires
insert_values-requires c =
    let fit = insert_row-fits (rw c.in-Insert.is at c.requires.fit_action) in
    record {
      running = c.requires.running;
      table_bound = fit.0;
      values_len = fit.1;
    }

pub insert_from_query-requires : goal.insert_from_query-requires
insert_from_query-requires c =
    let fit = insert_from_query-fits (rw c.in-InsertFromQuery.is at c.requires.fit_action) in
    record {
      running = c.requires.running;
      table_bound = fit.0;
      expressions_len = fit.1;
    }

pub delete_rows-requires : goal.delete_rows-requires
delete_rows-requires c =
    record {
      running = c.requires.running;
      table_bound = delete_rows-fits (rw c.in-Delete.is at c.requires.fit_action);
    }

pub update_rows-requires : goal.update_rows-requires
update_rows-requires c =
    let fit = update_rows-fits (rw c.in-Update.is at c.requires.fit_action) in
    record {
      running = c.requires.running;
      table_bound = fit.0;
      mask_bound = fit.1;
      expressions_len = fit.2;
    }

pub returns-in-Rollback : goal.returns-in-Rollback
unfolding Actions.perform
returns-in-Rollback c =
    rw c.in-Rollback.is (rolled-back c.requires.running)

pub returns-in-Insert : goal.returns-in-Insert
unfolding Actions.perform
returns-in-Insert c =
    rw c.in-Insert.is c.insert_values.ensures

pub returns-in-InsertFromQuery : goal.returns-in-InsertFromQuery
returns-in-InsertFromQuery c =
    rw c.in-InsertFromQuery.is c.insert_from_query.ensures

pub returns-in-Delete : goal.returns-in-Delete
returns-in-Delete c =
    rw c.in-Delete.is c.delete_rows.ensures

pub returns-in-Update : goal.returns-in-Update
returns-in-Update c =
    rw c.in-Update.is c.update_rows.ensures
