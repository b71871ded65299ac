-- Row operations: nothing invented stands in a trace. Every operation is one that the image as it is then admits.
use Rattle.std.specs.Prelude.{◌≡◌, List, ℕ, ◌≤◌}
use Rattle.meaning.specs.Covers.{Row}
use Rattle.meaning.specs.RowOperations.{updates}
use Rattle.meaning.specs.Trace.{Point, Making}
use Rattle.meaning.specs.Made.{Sound, Fits}
use Rattle.meaning.specs.Runs.{Accepted, ending_of, image_after}

module _ {image book log : List ℕ} (a : Accepted image book log) where
  pub record Admitted : Type 0 where
    -- an insert takes the next handle of then; a deleted row and an old row are the live row of then; an updated row differs from it only
    -- in its mask's columns
    pub each : (o : Making (ending_of a)) → Fits (image_after a o.before) o.operation
    -- an update's mask is 1..15
    pub masks : (o : Making (ending_of a)) (mask : ℕ) (old new : Row) → o.operation ≡ updates mask old new → (1 ≤ mask) × (mask ≤ 15)
    -- at every point the rows are proper and rise by handle, at least 1 and below the next handle; at most 64 are live, and the next handle
    -- is 1..4294967295
    pub sound : (p : Point (ending_of a)) → Sound (image_after a p.before)
