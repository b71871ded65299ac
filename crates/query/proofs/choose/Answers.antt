-- `query::choose` meets its contract. The loop's invariant: the rows chosen so far are those at the first j places; the room is as it was
-- but for the chosen rows.
use borrow.Author.Rules.{rules}
use mathlib.Core.Path.{◌≡◌}
use lib.ListN.{length}
use native.Mathlib.Omega.{arith}
use Rattle.query.proofs.Loops.{emptied-laid, choosing-start, choosing-done, choosing-stands, choosing-room}
use Rattle.query.proofs.Loops.{choosing-inside, choosing-more}
use Rattle.query.proofs.choose.Goals as goal

pub wanted_rows-rows-requires-clause-laid : goal.wanted_rows-rows-requires-clause-laid
wanted_rows-rows-requires-clause-laid c = emptied-laid c.requires c.empty.ensures

pub loop-j-init : goal.loop-j-init
loop-j-init c =
    let long : length c.wanted_rows-rows.result.places ≡ 64 = search rules in
    choosing-start c.requires c.empty.ensures c.args.q _ c.table_of-table.ensures c.wanted_rows-rows.ensures.within long

pub push_place-requires : goal.push_place-requires
push_place-requires c =
    let stands = c.loop-j.invariant.stands in
    let free = choosing-room _ c.loop-j.invariant c.loop-j-test.true in
    let from = choosing-stands _ c.loop-j.invariant c.loop-j-test.true in
    let inside = choosing-inside _ c.loop-j.invariant c.loop-j-test.true c.wide.ensures.0 in
    (omega arith, (omega arith, (stands, (free, (omega arith, (from, inside))))))

pub loop-j-preserved : goal.loop-j-preserved
loop-j-preserved c =
    choosing-more _ c.loop-j.invariant c.loop-j-test.true c.wide.ensures.0 c.push_place.ensures

pub returns : goal.returns
returns c =
    choosing-done c.requires c.empty.ensures c.args.q _ c.table_of-table.ensures _ _ c.wanted_rows-rows.ensures
    c.loop-j.invariant c.loop-j-test.false
