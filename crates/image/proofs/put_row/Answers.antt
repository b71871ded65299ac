-- `image::put_row` meets its contract: stores keep the length, and those of the six fields are the row's bytes at the front.
use native.Mathlib.Omega.{arith}
use Rattle.image.proofs.Laws.{put-row}
use Rattle.image.proofs.put_row.Goals as goal

pub returns : goal.returns
returns c =
    put-row c.args.part.now c.args.r c.low_byte.result c.requires.in_bounds (c.low_byte.ensures c.requires.table_bound)
    (omega (arith, c.well_formed.1)) (omega (arith, c.well_formed.1)) (omega (arith, c.well_formed.1)) (omega (arith, c.well_formed.1))
    c.put32.ensures c.put32-2.ensures c.put32-3.ensures c.put32-4.ensures c.put32-5.ensures
