-- `lines::put_head` meets its contract: its five numbers, one after another, are the words of the line.
use native.Mathlib.Omega.{arith}
use Rattle.meaning.specs.EntryPoints.{line}
use Rattle.lines.proofs.Numbers.{shown}
use Rattle.lines.proofs.Texts.{puts_then}
use Rattle.lines.proofs.put_head.Goals as goal

pub returns : goal.returns
unfolding line
returns c =
    let few = c.requires.outcome_bound in
    rw (
      ← shown c.args.outcome (omega arith),
      ← shown c.args.reason (omega arith),
      ← shown c.args.count (omega arith),
      ← shown c.args.next (omega arith),
      ← shown c.args.rows (omega arith),
    )
    (puts_then (puts_then c.put_number-first.ensures c.put_numbers-all.ensures) c.put_bytes.ensures)
