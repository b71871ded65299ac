-- `loading::load` meets its contract. The loop's invariant: the live rows, and then the rows that are left from here on, are the image's.
use native.Mathlib.Omega.{arith}
use Rattle.slots.proofs.Frames.{word-put}
use Rattle.loading.proofs.Rows.{loading-start, loading-more, loading-done}
use Rattle.loading.proofs.load.Goals as goal

pub loop-init : goal.loop-init
loop-init c =
    loading-start c.requires.well_formed c.empty_all.ensures

pub load_row-requires : goal.load_row-requires
load_row-requires c = record {
  stands = c.loop.invariant.stands;
  room_bound = omega arith;
  at_in_bounds = omega arith;
}

pub loop-preserved : goal.loop-preserved
loop-preserved c =
    loading-more c.loop.invariant (omega arith) c.load_row.ensures

pub returns : goal.returns
returns c =
    loading-done c.requires.well_formed (word-put _ _ (omega arith) (omega arith) c.put_low32.ensures) c.empty_all.ensures
    c.loop.invariant (omega arith)
