-- `lines::put_numbers` meets its contract. The loop's invariant: the numbers before the index are put.
use Rattle.lines.proofs.Numbers.{Spaced}
use Rattle.lines.proofs.put_numbers.Given as goal

abbrev pub invariant-loop-n : goal.invariant-loop-n
invariant-loop-n g l = Spaced g.I.Integer.text g.I.Integer.MAX_STR_LEN l.numbers l.initial.out l.out l.at l.n-index l.here
