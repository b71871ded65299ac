-- `text::put_ran` meets its contract: the image that a run wrote is at the front of the output, can be read back, and is printed.
use Rattle.processing.specs.Endings.{outcome_meant}
use Rattle.text.proofs.Told.{ran-lines, count_small, not-bad, outcome-small, reason-small}
use Rattle.text.proofs.put_ran.Goals as goal

pub slice_bounds-s-end : goal.slice_bounds-s-end
slice_bounds-s-end c = c.part_end-n.ensures.upper_bound

pub put_run-requires : goal.put_run-requires
put_run-requires c =
    let o = outcome_meant c.args.ended.outcome in
    record {
      in_bounds = c.requires.in_bounds;
      outcome_bound = (
        rw c.outcome.ensures (outcome-small o),
        rw c.reason.ensures (reason-small o),
        count_small c.requires.telling,
      );
      well_formed = c.in-Some.ensures.told;
    }

pub returns-in-Some : goal.returns-in-Some
returns-in-Some c =
    ran-lines c.args.ended c.part_end-n.ensures.value c.put_run.ensures
    c.outcome.ensures c.reason.ensures

pub returns-in-None : goal.returns-in-None
returns-in-None c =
    not-bad c.requires.telling c.part_end-n.ensures.value c.judge.ensures.result_value c.in-None.is
