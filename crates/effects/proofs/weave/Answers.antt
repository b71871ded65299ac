-- `effects::weave` meets its contract: before each turn what is woven and what is left are what is to be woven; at the end of the stretch
-- the rest of what waits is brought, and all of it takes its place.
use mathlib.Core.Path.{sym, ◌∙◌}
use native.Mathlib.Omega.{arith}
use Rattle.slots.specs.Slots.{table_bytes}
use Rattle.effects.proofs.SpareTable.{weave-loom, weave-start, weave-fits, weaving-loom, weaving-reads, weaving-next}
use Rattle.effects.proofs.SpareTable.{weave-own, weave-other, last-brings, put-ready, put-aside}
use Rattle.effects.proofs.weave.Goals as goal
use Rattle.effects.proofs.weave.Goals.{then-table_at-wide, else-table_at-wide}

pub size-n-requires : goal.size-n-requires
unfolding table_bytes
size-n-requires c =
    (omega arith, omega (arith, (weave-loom c.requires.settles c.empty.ensures).waits.fits))

pub size-j-end-requires : goal.size-j-end-requires
unfolding table_bytes
size-j-end-requires c =
    (omega arith, omega (arith, (weave-loom c.requires.settles c.empty.ensures).stretch.fits))

pub loop-j-init : goal.loop-j-init
loop-j-init c =
    weave-start c.requires.settles c.empty.ensures _ _ _ c.requires.passed

pub table_at-requires : goal.table_at-requires
table_at-requires c =
    let loom = weave-loom c.requires.settles c.empty.ensures in
    let reads = weaving-reads loom c.loop-j.invariant c.size-j-end.ensures c.loop-j-test.true in
    (omega arith, ((weaving-loom loom c.loop-j.invariant).stretch, reads))

pub weave_one-i-requires : goal.weave_one-i-requires
weave_one-i-requires c =
    let loom = weave-loom c.requires.settles c.empty.ensures in
    let fits = weave-fits c.requires.settles c.empty.ensures c.args.table c.args.first c.args.after c.requires.after_len_bound in
    weaving-next loom c.loop-j.invariant fits (weaving-reads loom c.loop-j.invariant c.size-j-end.ensures c.loop-j-test.true)
    (sym c.table_at.ensures ∙ c.if-table_at-wide.true ∙ c.wide.ensures.0)

pub loop-j-preserved : goal.loop-j-preserved
loop-j-preserved c =
    let loom = weave-loom c.requires.settles c.empty.ensures in
    elim c.if-table_at-wide.branch [
      | then-table_at-wide w ↦
          let own = sym c.table_at.ensures ∙ w.if-table_at-wide.true ∙ c.wide.ensures.0 in
          rw (w.room-is, w.i-is) (weave-own loom c.loop-j.invariant own w.weave_one-i.ensures)
      | else-table_at-wide w ↦
          rw (w.room-is, w.i-is)
          (weave-other loom c.loop-j.invariant (weaving-reads loom c.loop-j.invariant c.size-j-end.ensures c.loop-j-test.true)
          (λ own. w.if-table_at-wide.false (c.table_at.ensures ∙ own ∙ sym c.wide.ensures.0)))
    ]

pub bring-requires : goal.bring-requires
bring-requires c =
    let loom = weave-loom c.requires.settles c.empty.ensures in
    let fits = weave-fits c.requires.settles c.empty.ensures c.args.table c.args.first c.args.after c.requires.after_len_bound in
    let given = last-brings loom c.loop-j.invariant c.size-j-end.ensures c.size-n.ensures c.loop-j-test.false fits in
    record { loom = given.0; from_le_to = given.1.0; to_bound = given.1.1.0; from_bound = given.1.1.1 }

pub put_tail-requires : goal.put_tail-requires
put_tail-requires c =
    let puts = put-ready c.requires.settles c.requires.passed c.requires.after_len_bound c.empty.ensures c.loop-j.invariant
    c.size-j-end.ensures c.size-n.ensures c.loop-j-test.false c.bring.ensures in
    (omega arith, (omega arith, puts))

pub returns : goal.returns
returns c =
    put-aside c.requires.settles c.requires.passed c.requires.after_len_bound c.empty.ensures c.loop-j.invariant
    c.size-j-end.ensures c.size-n.ensures c.loop-j-test.false c.bring.ensures c.put_tail.ensures
