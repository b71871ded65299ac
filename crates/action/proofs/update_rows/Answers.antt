-- `action::update_rows` meets its contract: rows are chosen and worked out aside; where a sum leaves 32 bits nothing changed that the room
-- represents, else the rows worked out take the places of the chosen ones.
use borrow.Author.Rules.{rules}
use Rattle.std.proofs.lemmas.Result.{err_from_is_err_and}
use Rattle.terms.specs.Terms.{terms_meant}
use Rattle.action.proofs.Aside.{aside-chosen, running-aside}
use Rattle.action.proofs.Prepared.{table-chosen, taken-rows, prepared, update-fails, update-ready, query-updates}
use Rattle.action.proofs.update_rows.Goals as goal

pub work_out_all-requires-clause-laid : goal.work_out_all-requires-clause-laid
work_out_all-requires-clause-laid c = (aside-chosen c.requires.running.represents.laid c.choose.ensures).laid

pub returns-in_err-work_out_all : goal.returns-in_err-work_out_all
returns-in_err-work_out_all c =
    let is = err_from_is_err_and c.from_residual.result c.from_residual.ensures.1 in
    let made = table-chosen c.args.book.now c.args.triggers c.args.table c.args.terms c.requires.table_bound c.choose.ensures in
    rw (is.1, is.2)
    (update-fails c.args.table (terms_meant c.args.book.now c.args.triggers c.args.terms) c.requires.running.represents.laid
    (prepared c.requires.running.represents.laid made (rw c.in_err-work_out_all.was at c.work_out_all.ensures))
    (λ k. (c.type_inv.room k).fits))

pub update_all-requires : goal.update_all-requires
update_all-requires c =
    let made = table-chosen c.args.book.now c.args.triggers c.args.table c.args.terms c.requires.table_bound c.choose.ensures in
    let p =
    prepared c.requires.running.represents.laid made
    (rw c.in_ok-work_out_all.was at c.work_out_all.ensures) in
    record {
      running = running-aside p.aside (search rules) c.requires.running;
      mask_bound = c.requires.mask_bound;
      taken = taken-rows c.requires.running p.aside c.args.table (terms_meant c.args.book.now c.args.triggers c.args.terms) p.rows;
      rewritten = update-ready p;
    }

pub returns : goal.returns
returns c =
    let made = table-chosen c.args.book.now c.args.triggers c.args.table c.args.terms c.requires.table_bound c.choose.ensures in
    query-updates c.args.table (terms_meant c.args.book.now c.args.triggers c.args.terms) c.requires.running.represents.laid
    (prepared c.requires.running.represents.laid made (rw c.in_ok-work_out_all.was at c.work_out_all.ensures))
    (search rules) c.update_all.ensures
