-- `text::text` meets its contract: an input that is too long is refused first, and any other is cut, run, and its answer printed.
use native.Mathlib.Omega.{arith}
use Rattle.meaning.specs.EntryPoints.{verdict_on}
use Rattle.text.proofs.Told.{cut-tells, cut-texts, too-long-texts}
use Rattle.text.proofs.text.Goals as goal

pub returns-then-input-gt-INPUT : goal.returns-then-input-gt-INPUT
returns-then-input-gt-INPUT c =
    too-long-texts c.args.input.now (omega (arith, c.if-input-gt-INPUT.true)) c.put_refused.ensures

pub slice_bounds-more-count : goal.slice_bounds-more-count
slice_bounds-more-count c = omega (arith, c.part_end-a.ensures.upper_bound)

pub slice_bounds-more-start : goal.slice_bounds-more-start
slice_bounds-more-start c = omega (arith, c.part_end-a.ensures.upper_bound)

pub slice_bounds-run-end : goal.slice_bounds-run-end
slice_bounds-run-end c = omega (arith, c.part_end-a.ensures.upper_bound)

pub slice_bounds-run-end-2 : goal.slice_bounds-run-end-2
slice_bounds-run-end-2 c = omega (arith, c.part_end-b.ensures.upper_bound)

pub slice_bounds-run-count-3 : goal.slice_bounds-run-count-3
slice_bounds-run-count-3 c = omega (arith, c.part_end-b.ensures.upper_bound)

pub slice_bounds-run-start-3 : goal.slice_bounds-run-start-3
slice_bounds-run-start-3 c = omega (arith, c.part_end-b.ensures.upper_bound)

pub put_answer-requires : goal.put_answer-requires
put_answer-requires c =
    record {
      in_bounds = c.requires.in_bounds_3;
      telling = record {
        verdict = verdict_on c.args.input.now;
        tells = cut-tells c.args.input.now c.part_end-a.ensures.value c.part_end-b.ensures.value c.run-answer.ensures c.requires.in_bounds c.requires.in_bounds_2;
      };
    }

pub returns : goal.returns
returns c =
    cut-texts c.args.input.now c.part_end-a.ensures.value c.part_end-b.ensures.value c.run-answer.ensures (omega (arith, c.if-input-gt-INPUT.false))
    (c.put_answer.ensures.is (verdict_on c.args.input.now) (cut-tells c.args.input.now c.part_end-a.ensures.value c.part_end-b.ensures.value c.run-answer.ensures c.requires.in_bounds c.requires.in_bounds_2))
