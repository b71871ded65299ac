-- The working room represents a state of the specification: the one thing that connects the two worlds.
use Rattle.std.specs.Prelude.{◌≡◌, List, [], ◌∷◌, ◌++◌, ℕ, ◌≤◌, ◌<◌, length, get_or, drop, set, replicate}
use Rattle.meaning.specs.Covers.{Rule, Image}
use Rattle.meaning.specs.RowOperations.{RowOperation, handle_of, effect_of, make, make_all, net_effect, own_of}
use Rattle.meaning.specs.Processing.{State}
use Rattle.meaning.specs.Made.{Sound, Made}
use Rattle.words.specs.Words.{Bytes, low32_at}
use Rattle.slots.specs.declared.Slot.{Slot}
use Rattle.room.specs.Joins.{RulesEnd}
use Rattle.room.specs.Room.{NEXT, Laid, effect_meant, live_rows, waits_in, stretch_in}

-- Live rows and next handle are the image's. Of the operations done, the first joined what waits for the rules, and what was done since
-- stands by itself, as one stretch. What waits for each active rule is, of what the specification says waits for it, what is on the rule's
-- own table, since nothing else wakes it or is shown to it.
pub record Represents (xs tables : List ℕ) (s : State) : Type 0 where
  pub laid : Laid xs
  pub bytes : Bytes xs
  pub next : low32_at xs NEXT ≡ s.image.next
  pub rows : live_rows xs ≡ s.image.rows
  pub ended : RulesEnd tables
  pub joined : List RowOperation
  pub since : List RowOperation
  pub whole : s.done ≡ joined ++ since
  pub marked : (k : ℕ) → get_or s.marks k 0 ≤ length joined
  pub waiting : (k : ℕ) → k < 16 → get_or tables k 0 ≤ 3
      → waits_in xs k ≡ own_of (get_or tables k 0) (net_effect (drop (get_or s.marks k 0) joined))
  pub stretch : stretch_in xs ≡ net_effect since

-- all of them joined what waits
pub record Settled (xs tables : List ℕ) (s : State) : Type 0 where
  pub represents : Represents xs tables s
  pub none : represents.since ≡ []

-- a state that a run reaches from a sound start image: its operations fit one after another
pub record Reached (start : Image) (s : State) : Type 0 where
  pub sound : Sound start
  pub made : Made start s.done
  pub image : s.image ≡ make_all s.done start
  pub marked : (k : ℕ) → get_or s.marks k 0 ≤ length s.done

-- a room that represents such a state
pub record Running (xs : List ℕ) : Type 0 where
  pub tables : List ℕ
  pub start : Image
  pub state : State
  pub reached : Reached start state
  pub represents : Represents xs tables state

-- and one that represents it for a rule to be considered
pub record Ready (xs tables : List ℕ) : Type 0 where
  pub start : Image
  pub state : State
  pub reached : Reached start state
  pub settled : Settled xs tables state

-- nothing is done, and all marks are at 0
unfoldable pub starting : List Rule → Image → State
starting rules start = record { image = start; done = []; marks = replicate (length rules) 0 }

-- rule k has seen all operations so far
unfoldable pub seen : State → ℕ → State
seen s k = record { image = s.image; done = s.done; marks = set s.marks k (length s.done) }

-- one operation more, and several
unfoldable pub made_one : RowOperation → State → State
made_one o s = record { image = make o s.image; done = s.done ++ (o ∷ []); marks = s.marks }

unfoldable pub made_all : List RowOperation → State → State
made_all os s = record { image = make_all os s.image; done = s.done ++ os; marks = s.marks }

-- a slot says what an operation does to its handle
pub record Says (o : RowOperation) (op : Slot) : Type 0 where
  pub handle : op.handle ≡ handle_of o
  pub effect : effect_meant op ≡ effect_of o
