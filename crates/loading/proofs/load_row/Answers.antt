-- `loading::load_row` meets its contract: the slot that is pushed has the words of the row that was read.
use Rattle.loading.proofs.Rows.{row_loaded}
use Rattle.loading.proofs.load_row.Goals as goal

pub returns : goal.returns
returns c =
    row_loaded _ c.row_at-r.result c.row_at-r.ensures c.push.ensures
