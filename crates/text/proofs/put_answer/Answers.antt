-- `text::put_answer` meets its contract: a refusal has its line, and a run its lines.
use Rattle.text.proofs.Told.{refused-lines, refusal-small}
use Rattle.text.proofs.put_answer.Goals as goal

pub put_refused-requires : goal.put_refused-requires
put_refused-requires c =
    record {
      in_bounds = c.requires.in_bounds;
      n_bound = rw c.refusal.ensures (refusal-small _);
    }

pub put_ran-requires : goal.put_ran-requires
put_ran-requires c =
    record {
      in_bounds = c.requires.in_bounds;
      telling = rw c.in-Ok.is at c.requires.telling;
    }

pub returns-in-Err : goal.returns-in-Err
returns-in-Err c =
    rw c.in-Err.is (refused-lines _ c.refusal.ensures c.put_refused.ensures)

pub returns-in-Ok : goal.returns-in-Ok
returns-in-Ok c =
    rw c.in-Ok.is c.put_ran.ensures
