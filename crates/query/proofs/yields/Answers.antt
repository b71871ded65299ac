-- `query::yields` meets its contract: the picked rows are those that the query yields, so there is one where their count is not 0.
use borrow.Author.Rules.{rules}
use mathlib.Core.Path.{◌≡◌, sym, ◌∙◌}
use lib.ListN.{length}
use Rattle.meaning.specs.Base.{select}
use Rattle.slots.specs.Slots.{table_at}
use Rattle.query.proofs.Laws.{wanted, some-chosen}
use Rattle.query.proofs.Narrowing.{some-picked}
use Rattle.query.proofs.yields.Goals as goal

pub returns : goal.returns
returns c =
    let long : length c.wanted_rows-rows.result.places ≡ 64 = search rules in
    let rows = select (wanted c.args.room.now c.args.book.now c.args.triggers c.args.q) (table_at c.args.room.now c.table_of.result.base) in
    some-picked {rows = rows} c.wanted_rows-rows.ensures long
    ∙ rw c.table_of.ensures (sym (some-chosen c.args.room.now c.args.book.now c.args.triggers c.args.q))
