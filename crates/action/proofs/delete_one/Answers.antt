-- `action::delete_one` meets its contract: the row that is found goes, and where none is found nothing changed.
use Rattle.std.proofs.lemmas.Result.{err_from_is_err_and}
use Rattle.room.proofs.Live.{live-sorted}
use Rattle.action.proofs.One.{delete-can, deleted-one, missing-one}
use Rattle.action.proofs.delete_one.Goals as goal

pub delete_row-requires-clause-sorted : goal.delete_row-requires-clause-sorted
delete_row-requires-clause-sorted c = live-sorted c.requires.reached c.requires.represents

pub delete_row-requires-clause-can_join : goal.delete_row-requires-clause-can_join
delete_row-requires-clause-can_join c = delete-can c.requires c.args.handle

pub returns-in_err-delete_row : goal.returns-in_err-delete_row
returns-in_err-delete_row c =
    let is = err_from_is_err_and c.from_residual.result c.from_residual.ensures.1 in
    rw (is.1, is.2) (missing-one c.requires c.args.handle (rw c.in_err-delete_row.was at c.delete_row.ensures))

pub returns : goal.returns
returns c =
    deleted-one c.requires c.args.handle (λ k. (c.type_inv.room k).fits) (rw c.in_ok-delete_row.was at c.delete_row.ensures)
