-- `query::column_of` meets its contract. The loop's invariant: the values of the first j picked rows are in place, and every place after
-- them has the first row's.
use borrow.Author.Rules.{rules}
use mathlib.Core.Path.{◌≡◌}
use native.Mathlib.Omega.{arith}
use lib.ListN.{length}
use Rattle.slots.proofs.Tables.{table-length}
use Rattle.query.proofs.Columns.{filling-start, filling-more, filling-done}
use Rattle.query.proofs.column_of.Goals as goal

pub value_at-first-requires : goal.value_at-first-requires
value_at-first-requires c =
    let inside = c.requires.within.inside 0 c.requires.count_nonzero in
    (omega arith, (c.requires.stands, omega (arith, c.wide.ensures.0, table-length c.args.room.now c.args.table.base, inside)))

pub loop-j-init : goal.loop-j-init
loop-j-init c =
    filling-start _ _ _ _ c.requires.within c.requires.count_nonzero (rw (← c.wide.ensures.0) c.value_at-first.ensures)

pub value_at-requires : goal.value_at-requires
value_at-requires c =
    let inside = c.requires.within.inside _ c.loop-j-test.true in
    (omega arith, (c.requires.stands, omega (arith, c.wide-in-loop-j.ensures.0, table-length c.args.room.now c.args.table.base, inside)))

pub loop-j-preserved : goal.loop-j-preserved
loop-j-preserved c =
    filling-more _ _ _ c.loop-j.invariant c.loop-j-test.true (rw (← c.wide-in-loop-j.ensures.0) c.value_at.ensures)

pub returns : goal.returns
returns c =
    let long : length c.args.rows.places ≡ 64 = search rules in
    filling-done _ _ _ c.loop-j.invariant c.loop-j-test.false long
