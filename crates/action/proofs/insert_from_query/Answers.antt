-- `action::insert_from_query` meets its contract: rows are chosen and worked out aside; where a sum leaves 32 bits nothing changed that the
-- room represents, else the values worked out are inserted.
use borrow.Author.Rules.{rules}
use Rattle.std.proofs.lemmas.Result.{err_from_is_err_and}
use lib.Count.{ones}
use Rattle.action.proofs.Aside.{aside-chosen, running-aside}
use Rattle.action.proofs.Prepared.{prepared, query-fails, query-inserts}
use Rattle.action.proofs.insert_from_query.Goals as goal

pub work_out_all-requires-clause-laid : goal.work_out_all-requires-clause-laid
work_out_all-requires-clause-laid c = (aside-chosen c.requires.running.represents.laid c.choose.ensures).laid

pub returns-in_err-work_out_all : goal.returns-in_err-work_out_all
unfolding ones
returns-in_err-work_out_all c =
    let is = err_from_is_err_and c.from_residual.result c.from_residual.ensures.1 in
    rw (is.1, is.2)
    (query-fails c.args.table c.requires.running.represents.laid
    (prepared c.requires.running.represents.laid c.choose.ensures (rw c.in_err-work_out_all.was at c.work_out_all.ensures))
    (λ k. (c.type_inv.room k).fits))

pub insert_all-requires-clause-running : goal.insert_all-requires-clause-running
insert_all-requires-clause-running c =
    running-aside (prepared c.requires.running.represents.laid c.choose.ensures c.work_out_all.ensures).aside
    (search rules) c.requires.running

pub returns : goal.returns
unfolding ones
returns c =
    query-inserts c.args.table c.requires.running.represents.laid c.requires.expressions_len
    (prepared c.requires.running.represents.laid c.choose.ensures
    (rw c.in_ok-work_out_all.was at c.work_out_all.ensures))
    (search rules) c.insert_all.ensures
