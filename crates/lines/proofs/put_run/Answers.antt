-- `lines::put_run` meets its contract: in a well-formed image at most 64 rows stand one after another, and the first line with a line for
-- each of them is what a run prints.
use native.Mathlib.Omega.{arith}
use Rattle.lines.proofs.Rows.{rows-stand, puts-run}
use Rattle.lines.proofs.put_run.Goals as goal

pub put_head-here-requires : goal.put_head-here-requires
put_head-here-requires c =
    let few = (rows-stand c.requires.well_formed).few in
    record {
      in_bounds = omega arith;
      outcome_bound = (omega arith, omega arith, omega arith, omega arith);
    }

pub put_rows-requires : goal.put_rows-requires
put_rows-requires c =
    record {
      at_in_bounds = omega arith;
      rows_stand = rows-stand c.requires.well_formed;
    }

pub returns : goal.returns
returns c =
    puts-run c.requires.well_formed (omega arith) c.put_head-here.ensures c.put_rows.ensures
