-- `query::pairs_at` meets its contract. The loop's invariant: the n pairs say the same as the four so far and those that are left.
use Prim.Native.Nat.{◌-◌}
use Rattle.query.proofs.Gathered.{Gathering}
use Rattle.query.proofs.pairs_at.Given as goal

abbrev pub invariant-loop : goal.invariant-loop
invariant-loop l = Gathering l.book l.at l.n l.p (l.n - l.counter) l.here
