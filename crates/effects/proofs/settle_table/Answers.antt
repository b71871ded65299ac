-- `effects::settle_table` meets its contract: before each turn nothing has changed, and what is left of the stretch has the same to join as
-- all of it; at the first change both are woven from there on.
use native.Mathlib.Omega.{arith}
use Rattle.slots.specs.Slots.{table_bytes}
use Rattle.effects.proofs.SpareTable.{go-reads, go-other, go-low, go_on, go-weaves, go-woven, go-done}
use Rattle.effects.proofs.settle_table.Goals as goal
use Rattle.effects.proofs.settle_table.Goals.{then-op-table+else-not-stays, else-op-table}

pub size-j-end-requires : goal.size-j-end-requires
unfolding table_bytes
size-j-end-requires c = (omega arith, omega (arith, c.requires.settles.stretch.fits))

pub place_from-i-requires-clause-from_bound : goal.place_from-i-requires-clause-from_bound
place_from-i-requires-clause-from_bound c =
    go-low c.loop-j.invariant (go-reads c.loop-j.invariant c.size-j-end.ensures c.loop-j-test.true) c.slot_at-op.ensures

pub weave-requires : goal.weave-requires
weave-requires c =
    let given = go-weaves c.loop-j.invariant (go-reads c.loop-j.invariant c.size-j-end.ensures c.loop-j-test.true) c.slot_at-op.ensures c.place_from-i.ensures
    c.requires.settles c.requires.table_len_bound in
    record { settles = given.0; passed = given.1.0; after_len_bound = given.1.1 }

pub returns-then-not-stays : goal.returns-then-not-stays
returns-then-not-stays c =
    go-woven c.loop-j.invariant (go-reads c.loop-j.invariant c.size-j-end.ensures c.loop-j-test.true) c.slot_at-op.ensures
    c.place_from-i.ensures c.weave.ensures

pub loop-j-preserved : goal.loop-j-preserved
loop-j-preserved c =
    let reads = go-reads c.loop-j.invariant c.size-j-end.ensures c.loop-j-test.true in
    elim c.if-op-table.branch [
      | then-op-table+else-not-stays w ↦
          rw w.i-is
          (go_on c.loop-j.invariant reads c.slot_at-op.ensures w.place_from-i.ensures w.if-op-table.true (w.stays.ensures w.if-not-stays.false))
      | else-op-table w ↦ rw w.i-is (go-other c.loop-j.invariant reads c.slot_at-op.ensures w.if-op-table.false)
    ]

pub returns : goal.returns
returns c =
    go-done c.loop-j.invariant c.requires.settles c.size-j-end.ensures c.loop-j-test.false
