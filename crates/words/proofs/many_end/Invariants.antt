-- `words::many_end` meets its contract. The loop's invariant: all end where those that are left do, read from here on.
use Rattle.std.proofs.Common.{◌≡◌, ◌-◌}
use Rattle.meaning.specs.Reading.{many}
use Rattle.words.specs.Words.{end_of}
use Rattle.words.proofs.many_end.Given as goal

abbrev pub invariant-loop : goal.invariant-loop
invariant-loop g l =
    let p = g.L.Layout.layout l.layout in
    end_of (many l.n p l.s l.at) ≡ end_of (many (l.n - l.counter) p l.s l.here)
