-- `slots::Table::place_near` meets its contract: the place of a handle that is there is where it is, since handles rise, and a handle above
-- the last has its place at the end.
use mathlib.Core.Path.{sym}
use native.Mathlib.Omega.{arith}
use Rattle.slots.proofs.Tables.{table-length}
use Rattle.slots.proofs.Order.{place-there, place_end, hit-at}
use Rattle.slots.proofs.Table.place_near.Goals as goal

pub returns-then-is_at : goal.returns-then-is_at
returns-then-is_at g c =
    let here = hit-at _ _ _ c.is_at.ensures c.if-is_at.true in
    sym (place-there _ _ _ c.requires.sorted here.0 here.1)

pub returns-then-n-eq0 : goal.returns-then-n-eq0
returns-then-n-eq0 g c =
    sym (place_end _ _ _ c.requires.sorted (omega (arith, table-length c.args.room.now c.args.self.base)) (λ p. absurd (omega arith)))

pub returns-then-handle_at-handle : goal.returns-then-handle_at-handle
returns-then-handle_at-handle g c =
    sym
    (place_end _ _ _ c.requires.sorted (omega (arith, table-length c.args.room.now c.args.self.base)) (λ p. omega (arith, c.handle_at.ensures)))
