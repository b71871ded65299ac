-- `query::SourceColumns::some_of_64` meets its contract. The loop's invariant: there are hits where a row before j has what is wanted, and no more than j.
use Rattle.query.specs.Columns.{has_at}
use Rattle.query.proofs.Columns.{Counting}
use Rattle.query.proofs.SourceColumns.some_of_64.Given as goal

abbrev pub invariant-loop-j : goal.invariant-loop-j
invariant-loop-j l = Counting (has_at l.self.s0 l.self.s1 l.self.s2 l.self.s3 l.w) l.hits l.j
