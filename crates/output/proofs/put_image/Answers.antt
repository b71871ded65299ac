-- `output::put_image` meets its contract. The loop's invariant is `Writing`: up to here the output holds the image's head and its first i
-- rows, and from here on what it held before the loop.
use mathlib.Core.Path.{◌≡◌, sym, ◌∙◌}
use native.Mathlib.Omega.{arith}
use lib.ListN.{length, length-take, length-drop}
use Rattle.words.specs.Words.{low32_at}
use Rattle.slots.specs.Slots.{table_at, table_bytes}
use Rattle.slots.proofs.Tables.{table-length}
use Rattle.room.specs.Room.{NEXT, LIVE, live_rows}
use Rattle.output.proofs.Fronts.{writing_start, writing-length, writing_more, writing-done}
use Rattle.output.proofs.put_image.Goals as goal

pub size-n-requires : goal.size-n-requires
unfolding table_bytes
size-n-requires c = omega arith

pub low32-requires : goal.low32-requires
unfolding table_bytes
low32-requires c = omega arith

pub put_head-requires : goal.put_head-requires
put_head-requires c = record {
  in_bounds = omega arith;
  count_bound = omega arith;
}

pub loop-i-init : goal.loop-i-init
loop-i-init c =
    let all : length (table_at c.args.room.now LIVE) ≡ c.size-n.result = table-length c.args.room.now LIVE ∙ sym c.size-n.ensures in
    writing_start (table_at c.args.room.now LIVE) (low32_at c.args.room.now NEXT) c.size-n.result c.args.out.now c.put_head.new.out all
    (omega (arith, c.size-n.ensures, c.requires.stands.size)) c.requires.in_bounds
    (rw c.low32.ensures at c.put_head.ensures)

pub slice_bounds-put_row-count : goal.slice_bounds-put_row-count
slice_bounds-put_row-count c = omega (arith, writing-length c.loop-i.invariant (omega arith))

pub slice_bounds-put_row-start : goal.slice_bounds-put_row-start
slice_bounds-put_row-start c = omega (arith, writing-length c.loop-i.invariant (omega arith))

pub live_row-requires : goal.live_row-requires
live_row-requires c =
    record {
      stands = c.requires.stands;
      i_bound = omega (arith, c.size-n.ensures);
    }

pub put_row-requires : goal.put_row-requires
put_row-requires c = record {
  in_bounds = simp (length-take, length-drop) (omega (arith, writing-length c.loop-i.invariant (omega arith)));
  table_bound = c.live_row.ensures.table;
}

pub loop-i-preserved : goal.loop-i-preserved
loop-i-preserved c =
    writing_more c.loop-i.invariant (omega arith) (omega arith) c.put_row.new.part
    (rw c.live_row.ensures.is at c.put_row.ensures)

pub returns : goal.returns
unfolding live_rows
returns c =
    writing-done c.loop-i.invariant (omega arith) (omega arith) c.args.out.now
    (rw c.low32.ensures at c.put_head.ensures)
