-- `effects::settle_tables` meets its contract: before turn `k` what waits for the active rules below `k` is settled, and the others' tables
-- are as they were.
use Prim.Native.Nat.{◌<◌}
use native.Mathlib.Omega.{arith}
use Rattle.effects.proofs.AllTables.{next-settles, next_fits_lem, turn-yes, turn-no}
use Rattle.effects.proofs.settle_tables.Goals as goal
use Rattle.effects.proofs.settle_tables.Goals.{then-tables-k-lt-INACTIVE, else-tables-k-lt-INACTIVE}

pub settle_table-requires : goal.settle_table-requires
settle_table-requires c =
    let within : c.loop-k.k < 16 = omega arith in
    record {
      settles = rw c.wait.ensures (next-settles c.requires _ c.loop-k.invariant within (omega (arith, c.if-tables-k-lt-INACTIVE.true)));
      table_len_bound = rw c.wait.ensures (next_fits_lem c.requires _ c.loop-k.invariant within (omega (arith, c.if-tables-k-lt-INACTIVE.true)));
    }

pub loop-k-preserved : goal.loop-k-preserved
loop-k-preserved c =
    let within : c.loop-k.k < 16 = omega arith in
    elim c.if-tables-k-lt-INACTIVE.branch [
      | then-tables-k-lt-INACTIVE w ↦
          rw w.room-is
          (turn-yes c.requires _ c.loop-k.invariant within (omega (arith, w.if-tables-k-lt-INACTIVE.true)) (rw w.wait.ensures at w.settle_table.ensures))
      | else-tables-k-lt-INACTIVE w ↦ rw w.room-is (turn-no c.requires _ c.loop-k.invariant within w.if-tables-k-lt-INACTIVE.false)
    ]
