-- `effects::settle_tables` meets its contract: before turn `k` what waits for the active rules below `k` is settled, and the others' tables
-- are as they were.
use Rattle.effects.proofs.AllTables.{Upto}
use Rattle.effects.proofs.settle_tables.Given as goal

abbrev pub invariant-loop-k : goal.invariant-loop-k
invariant-loop-k l = Upto l.initial.room l.room l.tables l.k
