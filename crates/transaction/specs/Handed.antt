-- What a run writes at the front of the output.
use Rattle.std.specs.Prelude.{Bool, true, false, List, ℕ}
use Rattle.meaning.specs.ByteLayouts.{image_bytes}
use Rattle.words.specs.Words.{low32_at}
use Rattle.room.specs.Room.{NEXT, live_rows}
use Rattle.processing.specs.declared.Outcome.{Outcome}
use Rattle.processing.specs.declared.Outcome.TheVariants.{Commit, RolledBack, StepLimit, Failed}

unfoldable pub committed : Outcome → Bool
committed Commit = true
committed RolledBack = false
committed StepLimit = false
committed (Failed r) = false

-- the image that stands in the room if the run commits, else the given bytes
unfoldable pub handed : Bool → List ℕ → List ℕ → List ℕ
handed true image room = image_bytes (record { next = low32_at room NEXT; rows = live_rows room })
handed false image room = image
