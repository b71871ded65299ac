-- `query::shown_rows` meets its contract: the places of those of the first i slots that the source shows are written one after another.
use mathlib.Core.Path.{sym, ◌∙◌}
use Prim.Native.Nat.{◌<◌}
use native.Mathlib.Omega.{arith}
use lib.ListN.{length}
use Rattle.slots.specs.Slots.{table_at, table_bytes}
use Rattle.slots.proofs.Tables.{table-length}
use Rattle.query.proofs.Narrowing.{showing-start, showing-yes, showing-no, showing-done}
use Rattle.query.proofs.shown_rows.Goals.{then-shown_at, else-shown_at}
use Rattle.query.proofs.shown_rows.Goals as goal

pub size-i-end-requires : goal.size-i-end-requires
unfolding table_bytes
size-i-end-requires c = omega (arith, c.requires.fits)

pub loop-i-init : goal.loop-i-init
loop-i-init c =
    showing-start _ (omega (arith, c.requires.size, table-length c.args.room.now c.args.table.base)) (omega arith)

pub loop-i-preserved : goal.loop-i-preserved
loop-i-preserved c =
    let whole = table-length c.args.room.now c.args.table.base in
    let inside : c.loop-i.i < length (table_at c.args.room.now c.args.table.base) =
    omega (arith, c.size-i-end.ensures, c.loop-i-test.true, whole) in
    elim c.if-shown_at.branch [
      | then-shown_at w ↦ rw (w.places-is, w.count-is) (showing-yes _ c.loop-i.invariant _ inside (omega arith) (sym c.shown_at.ensures ∙ w.if-shown_at.true))
      | else-shown_at w ↦ rw (w.places-is, w.count-is) (showing-no _ c.loop-i.invariant inside (sym c.shown_at.ensures ∙ w.if-shown_at.false))
    ]

pub returns : goal.returns
returns c =
    let whole = table-length c.args.room.now c.args.table.base in
    showing-done _ c.loop-i.invariant (omega (arith, c.size-i-end.ensures, c.loop-i-test.false, whole))
