-- How a run ended, and what it left in the working room.
use Rattle.std.specs.Prelude.{◌≡◌, List, ℕ, length}
use Rattle.meaning.specs.Covers as Covers
use Rattle.meaning.specs.Covers.{Image, Rule}
use Rattle.meaning.specs.ByteLayouts.{operation}
use Rattle.meaning.specs.Processing.{Ending, process}
use Rattle.meaning.specs.Made.{Sound}
use Rattle.words.specs.Words.{low32_at, readable}
use Rattle.room.specs.Room.{NEXT, END, Laid, Kept, live_rows}
use Rattle.room.specs.Represents.{Represents, starting}
use Rattle.changes.specs.declared.Stop.{Stop}
use Rattle.changes.specs.declared.Stop.TheVariants as stop
use Rattle.changes.specs.Steps.{reason_meant}
use Rattle.plan.specs.declared.Plan.{Plan}
use Rattle.plan.specs.Plans.{rules_in}
use Rattle.trigger.specs.Triggers.{order_in}
use Rattle.processing.specs.declared.Outcome.{Outcome}
use Rattle.processing.specs.declared.Outcome.TheVariants.{Commit, RolledBack, StepLimit, Failed}
use Rattle.processing.specs.declared.Ended.{Ended}

abbrev pub outcome_meant : Outcome → Covers.Outcome
outcome_meant Commit = Covers.Outcome.commit
outcome_meant RolledBack = Covers.Outcome.rolled_back
outcome_meant StepLimit = Covers.Outcome.step_limit
outcome_meant (Failed r) = Covers.Outcome.failed (reason_meant r)

-- the outcome of a run that something ends
abbrev pub stopped : Stop → Outcome
stopped stop.RolledBack = RolledBack
stopped (stop.Failed r) = Failed r

-- a room that represents a run's start
pub record Starts (xs tables : List ℕ) (rules : List Rule) : Type 0 where
  pub start : Image
  pub sound : Sound start
  pub represents : Represents xs tables (starting rules start)

-- outcome and count are those of an ending, and its image stands in the room
pub record EndsAs (ys : List ℕ) (e : Ending) (r : Ended) : Type 0 where
  pub laid : Laid ys
  pub outcome : outcome_meant r.outcome ≡ e.outcome
  pub count : r.count ≡ e.count
  pub next : low32_at ys NEXT ≡ e.image.next
  pub rows : live_rows ys ≡ e.image.rows

-- the run ended as the specification says, for every start that the room represents; what stands past the tables stays
pub record Processes (xs ys book log : List ℕ) (plan : Plan) (limit n : ℕ) (r : Ended) : Type 0 where
  pub beyond : Kept END (length xs) xs ys
  pub ends : (start : Image) → Sound start → Represents xs plan.tables (starting (rules_in book plan.count) start)
      → EndsAs ys (process (rules_in book plan.count) (order_in plan) limit (readable n operation log 7) start) r
