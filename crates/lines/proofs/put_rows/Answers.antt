-- `lines::put_rows` meets its contract. The loop's invariant: what is put, and the lines of the rows that are left, are the lines of all
-- rows.
use native.Mathlib.Omega.{arith}
use Rattle.lines.proofs.Rows.{listed-none, listed-size, listed-table, listed_more, listed-all}
use Rattle.lines.proofs.put_rows.Goals as goal

pub loop-init : goal.loop-init
loop-init c = listed-none _ _ _ _ c.requires.rows_stand

pub row_at-requires : goal.row_at-requires
row_at-requires c = omega (arith, listed-size c.loop.invariant)

pub put_row-here-requires : goal.put_row-here-requires
put_row-here-requires c =
    record {
      at_in_bounds = omega (arith, c.loop.invariant.put, c.requires.at_in_bounds, c.requires.rows_stand.few);
      table_bound = listed-table c.loop.invariant (omega arith) c.row_at.result c.row_at.ensures;
    }

pub overflow_add-from : goal.overflow_add-from
overflow_add-from c = omega (arith, listed-size c.loop.invariant)

pub loop-preserved : goal.loop-preserved
loop-preserved c =
    listed_more c.loop.invariant (omega arith) c.row_at.result c.row_at.ensures c.put_row-here.ensures

pub returns : goal.returns
returns c = listed-all c.loop.invariant (omega (arith, c.requires.rows_stand.few)) (omega arith)
