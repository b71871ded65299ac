-- The rest of a run, from a state that the working room represents: what is left to consider, and how that ends.
use Rattle.std.specs.Prelude.{◌≡◌, List, ℕ, length, Option}
use Rattle.meaning.specs.Covers.{Image}
use Rattle.meaning.specs.Processing.{State, steps}
use Rattle.room.specs.Room.{END, Kept}
use Rattle.room.specs.Represents.{Represents, Settled, Reached}
use Rattle.plan.specs.declared.Plan.{Plan}
use Rattle.plan.specs.Plans.{rules_in}
use Rattle.trigger.specs.Triggers.{order_in, TriggersFirst}
use Rattle.processing.specs.declared.Ended.{Ended}
use Rattle.processing.specs.Endings.{EndsAs}

-- a run of the book's rules reaches a state from a start, and the room represents it; each rule has its mark
pub record Reaches (xs book : List ℕ) (plan : Plan) (start : Image) (s : State) : Type 0 where
  pub reached : Reached start s
  pub represents : Represents xs plan.tables s
  pub marks : length s.marks ≡ length (rules_in book plan.count)

-- there is such a state
pub record Midway (xs book : List ℕ) (plan : Plan) : Type 0 where
  pub start : Image
  pub state : State
  pub reaches : Reaches xs book plan start state

-- a run reaches a state, and the room represents it, all settled
pub record Rests (xs book : List ℕ) (plan : Plan) (start : Image) (s : State) : Type 0 where
  pub reached : Reached start s
  pub settled : Settled xs plan.tables s
  pub marks : length s.marks ≡ length (rules_in book plan.count)

-- every state that is reached is then settled, and the first triggered rule was asked for; what stands past the tables stays
pub record Looks (xs ys book : List ℕ) (plan : Plan) (r : Option ℕ) : Type 0 where
  pub beyond : Kept END (length xs) xs ys
  pub rests : (start : Image) (s : State) → Reaches xs book plan start s → Rests ys book plan start s
  pub first : TriggersFirst ys book plan r

-- from every state that is reached, with `left` considerations left and `count` made, the run ends as the specification says
pub record EndsFrom (xs ys book : List ℕ) (plan : Plan) (left count : ℕ) (r : Ended) : Type 0 where
  pub ends : (start : Image) (s : State) → Reaches xs book plan start s
      → EndsAs ys (steps (rules_in book plan.count) (order_in plan) left count s) r

-- so it does with the whole limit left; what stands past the tables stays
pub record Steps (xs ys book : List ℕ) (plan : Plan) (limit : ℕ) (r : Ended) : Type 0 where
  pub beyond : Kept END (length xs) xs ys
  pub from : EndsFrom xs ys book plan limit 0 r
