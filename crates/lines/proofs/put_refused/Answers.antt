-- `lines::put_refused` meets its contract: a word, a number and the line's end, put from 0 on, are a line at the front.
use native.Mathlib.Omega.{arith}
use Rattle.meaning.specs.EntryPoints.{line}
use Rattle.lines.proofs.Numbers.{shown}
use Rattle.lines.proofs.Texts.{puts_then, puts-front}
use Rattle.lines.proofs.put_refused.Goals as goal

pub returns : goal.returns
unfolding line
returns c =
    rw (← shown c.args.n (omega arith))
    (puts-front (omega arith) (puts_then (puts_then c.put_bytes-word.ensures c.put_numbers-number.ensures) c.put_bytes.ensures))
