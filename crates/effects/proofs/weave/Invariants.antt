-- `effects::weave` meets its contract: before each turn what is woven and what is left are what is to be woven; at the end of the stretch
-- the rest of what waits is brought, and all of it takes its place.
use Rattle.effects.proofs.SpareTable.{Weaving}
use Rattle.effects.proofs.weave.Given as goal

abbrev pub invariant-loop-j : goal.invariant-loop-j
invariant-loop-j l = Weaving l.initial.room l.room l.wait.base l.table l.first l.after l.i l.j
