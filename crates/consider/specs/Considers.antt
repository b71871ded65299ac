-- What a consideration leaves in the working room.
use Rattle.std.specs.Prelude.{List, ℕ, ◌<◌, length}
use Rattle.meaning.specs.Covers.{Image}
use Rattle.meaning.specs.Processing.{State, consider}
use Rattle.room.specs.Room.{END, Laid, Kept}
use Rattle.room.specs.Represents.{Settled, Reached, seen}
use Rattle.changes.specs.Steps.{Follows, Step}
use Rattle.plan.specs.declared.Plan.{Plan}
use Rattle.plan.specs.Plans.{rules_in}

-- For every state that the room represents, all settled: rule k has seen all operations so far, and then its actions' operations were made,
-- those that the specification says.
pub record Considers (xs ys book : List ℕ) (plan : Plan) (k : ℕ) (r : Step) : Type 0 where
  pub laid : Laid ys
  pub beyond : Kept END (length xs) xs ys
  pub follows : (start : Image) (s : State) → Reached start s → Settled xs plan.tables s → k < length s.marks
      → Follows ys plan.tables (seen s k) (consider (rules_in book plan.count) s k) r
