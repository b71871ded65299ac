-- `action::delete_rows` meets its contract: the rows of the table are chosen aside, may be taken from the live ones, and go.
use borrow.Author.Rules.{rules}
use Rattle.terms.specs.Terms.{terms_meant}
use Rattle.action.proofs.Aside.{aside-chosen, running-aside}
use Rattle.action.proofs.Prepared.{table-chosen, taken-rows, acts-delete}
use Rattle.action.proofs.delete_rows.Goals as goal

pub delete_all-requires : goal.delete_all-requires
delete_all-requires c =
    let made = table-chosen c.args.book.now c.args.triggers c.args.table c.args.terms c.requires.table_bound c.choose.ensures in
    let aside = aside-chosen c.requires.running.represents.laid made in record {
      running = running-aside aside (search rules) c.requires.running;
      taken = taken-rows c.requires.running aside c.args.table (terms_meant c.args.book.now c.args.triggers c.args.terms) made.rows;
    }

pub returns : goal.returns
returns c =
    let made = table-chosen c.args.book.now c.args.triggers c.args.table c.args.terms c.requires.table_bound c.choose.ensures in
    acts-delete c.requires.running (aside-chosen c.requires.running.represents.laid made) c.args.table
    (terms_meant c.args.book.now c.args.triggers c.args.terms) made.rows (search rules) c.delete_all.ensures
