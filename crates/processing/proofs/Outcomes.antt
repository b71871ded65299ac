-- An outcome can be had back from what it stands for, its reason too.
use mathlib.Core.Path.{◌≡◌, refl, ap}
use Rattle.meaning.specs.Covers as Covers
use Rattle.rows.specs.declared.Reason.{Reason}
use Rattle.rows.specs.declared.Reason.TheVariants.{NoSuchRow, Full, HandlesUsedUp, SumOutOfRange}
use Rattle.changes.specs.Steps.{reason_meant}
use Rattle.processing.specs.declared.Outcome.{Outcome}
use Rattle.processing.specs.declared.Outcome.TheVariants.{Commit, RolledBack, StepLimit, Failed}
use Rattle.processing.specs.Endings.{outcome_meant}

reason_back : Covers.Reason → Reason
reason_back Covers.Reason.no_such_row = NoSuchRow
reason_back Covers.Reason.full = Full
reason_back Covers.Reason.handles_used_up = HandlesUsedUp
reason_back Covers.Reason.sum_out_of_range = SumOutOfRange

reason-back : (r : Reason) → reason_back (reason_meant r) ≡ r
unfolding reason_back
reason-back NoSuchRow = refl
reason-back Full = refl
reason-back HandlesUsedUp = refl
reason-back SumOutOfRange = refl

pub outcome_back : Covers.Outcome → Outcome
outcome_back Covers.Outcome.commit = Commit
outcome_back Covers.Outcome.rolled_back = RolledBack
outcome_back Covers.Outcome.step_limit = StepLimit
outcome_back (Covers.Outcome.failed r) = Failed (reason_back r)

pub outcome-back : (o : Outcome) → outcome_back (outcome_meant o) ≡ o
unfolding outcome_back
outcome-back Commit = refl
outcome-back RolledBack = refl
outcome-back StepLimit = refl
outcome-back (Failed r) = ap Failed (reason-back r)
