-- `transition::draw_held` meets its contract: the slot is pushed where its row is of the rule's own table.
use native.Mathlib.Omega.{arith}
use Rattle.transition.proofs.Effects.{own-spare, own-added, other-added}
use Rattle.transition.proofs.draw_held.Goals as goal

pub push_from-requires : goal.push_from-requires
push_from-requires g c =
    (omega arith, (omega arith, (c.requires.room_for.stands, (own-spare _ _ (omega arith) c.requires.room_for, (omega arith, (c.requires.stands, c.requires.i_bound))))))

pub returns-then-table_at-rule : goal.returns-then-table_at-rule
returns-then-table_at-rule g c =
    own-added _ _ (omega arith) c.push_from.ensures

pub returns-else-table_at-rule : goal.returns-else-table_at-rule
returns-else-table_at-rule g c =
    other-added _ _ (λ q. omega arith) c.requires.room_for.stands
