-- `effects::join_kind` meets its contract: the constant is the specification's table, and past it a join is one that no run can reach.
use Rattle.meaning.specs.RowOperations.{join_table}
use Rattle.effects.proofs.KindTable.{kind-in, past-columns, past-lines}
use Rattle.effects.proofs.join_kind.Goals as goal
use Rattle.effects.proofs.join_kind.Goals.{else-a-lt4-via-then-a-lt4+else-b-lt4, else-a-lt4-via-else-a-lt4}

pub returns-then-b-lt4 : goal.returns-then-b-lt4
unfolding join_table
returns-then-b-lt4 c = kind-in _ _ c.if-a-lt4.true c.if-b-lt4.true

pub returns-else-a-lt4 : goal.returns-else-a-lt4
returns-else-a-lt4 c =
    elim c.else-a-lt4.branch [
      | else-a-lt4-via-then-a-lt4+else-b-lt4 w ↦ past-columns _ _ w.if-a-lt4.true w.if-b-lt4.false
      | else-a-lt4-via-else-a-lt4 w ↦ past-lines _ _ w.if-a-lt4.false
    ]
