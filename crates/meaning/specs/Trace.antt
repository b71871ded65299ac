-- What is said of a trace: its operations, the places in it, the stretches between the considerations of a rule, what follows the log and a
-- consideration, and what a handle's rows and masks alone say of a stretch, without the join table.
use Rattle.std.specs.Prelude.{◌≡◌, false, List, [], ◌∷◌, ◌++◌, map, ℕ, suc, eqb, if◌then◌else◌}
use Rattle.std.proofs.Math.Option.{Option, none, some}
use Rattle.std.specs.Int.Bits.{bit_or}
use Rattle.meaning.specs.Base.{bit}
use Rattle.meaning.specs.Covers.{Row, commit, step_limit}
use Rattle.meaning.specs.RowOperations.{RowOperation, inserts, deletes, updates, Effect, NetEffect, join, effect_at, nothing}
use Rattle.meaning.specs.RowOperations.{inserted, deleted, updated}
use Rattle.meaning.specs.Processing.{Event, made, considered, Ending}
use Rattle.meaning.specs.Processing.Queries.{cell}
use Rattle.meaning.specs.Processing.Actions.{Result, went, ends}

-- the row operations of a trace, in order
unfoldable pub operations_in : List Event → List RowOperation
operations_in [] = []
operations_in (made o ∷ es) = o ∷ operations_in es
operations_in (considered k given ∷ es) = operations_in es

-- how many considerations it holds
unfoldable pub considerations_in : List Event → ℕ
considerations_in [] = 0
considerations_in (made o ∷ es) = considerations_in es
considerations_in (considered k given ∷ es) = suc (considerations_in es)

-- ---- Places in the trace of a run that ends as e

-- a point: the events before it and after it
pub record Point (e : Ending) : Type 0 where
  pub before : List Event
  pub after : List Event
  pub place : e.trace ≡ before ++ after

-- a row operation
pub record Making (e : Ending) : Type 0 where
  pub before : List Event
  pub operation : RowOperation
  pub after : List Event
  pub place : e.trace ≡ before ++ (made operation ∷ after)

-- a consideration: a rule, by its number, and what it is given
pub record Consideration (e : Ending) : Type 0 where
  pub before : List Event
  pub number : ℕ
  pub given : NetEffect
  pub after : List Event
  pub place : e.trace ≡ before ++ (considered number given ∷ after)

-- ---- The stretches of rule k

module _ (k : ℕ) where
  -- the operations after the last consideration of the rule, or after those of before where it has none
  unfoldable pub since_on : List RowOperation → List Event → List RowOperation
  since_on os [] = os
  since_on os (made o ∷ es) = since_on (os ++ (o ∷ [])) es
  since_on os (considered j given ∷ es) = if eqb j k then since_on [] es else since_on os es

  unfoldable pub since_last : List Event → List RowOperation
  since_last es = since_on [] es

  -- what the rule was given at its considerations, in order
  unfoldable pub given_to : List Event → List NetEffect
  given_to [] = []
  given_to (made o ∷ es) = given_to es
  given_to (considered j given ∷ es) = if eqb j k then given ∷ given_to es else given_to es

-- joined in order, on one handle
unfoldable pub joined_in : ℕ → Effect → List NetEffect → Effect
joined_in h e [] = e
joined_in h e (n ∷ ns) = joined_in h (join e (effect_at h n)) ns

-- ---- What follows the log, and a consideration, in a run that ends as e

-- where the operations of a step stop: at the next consideration, or at the end, where the run commits or has reached the limit
pub data Rest (e : Ending) : List Event → Type 0 where
  further : {k : ℕ} {given : NetEffect} {es : List Event} → Rest e (considered k given ∷ es)
  at_commit : e.outcome ≡ commit → Rest e []
  at_limit : e.outcome ≡ step_limit → Rest e []

-- These events are exactly the operations of a result. Where it goes on, the rest follows; where it ends the run, nothing follows, and the
-- run's outcome is the result's.
abbrev pub Makes : Ending → Result → List Event → Type 0
Makes e (went new) events = (rest : List Event) × (events ≡ map made new ++ rest) × Rest e rest
Makes e (ends o new) events = (events ≡ map made new) × (e.outcome ≡ o)

-- ---- A handle from outside

unfoldable pub union : Option ℕ → Option ℕ → Option ℕ
union none n = n
union (some m) none = some m
union (some m) (some n) = some (bit_or m n)

-- the mask of an update of a handle
unfoldable pub mask_on : ℕ → RowOperation → Option ℕ
mask_on h (inserts r) = none
mask_on h (deletes r) = none
mask_on h (updates m old new) = if eqb old.handle h then some m else none

-- the union of the masks of the updates of a handle
unfoldable pub masks_on : ℕ → List RowOperation → Option ℕ
masks_on h [] = none
masks_on h (o ∷ os) = union (mask_on h o) (masks_on h os)

-- the row of the first delete of a handle, as it was when it was deleted
unfoldable pub deleted_in : ℕ → Row → List RowOperation → Row
deleted_in h r [] = r
deleted_in h r (inserts s ∷ os) = deleted_in h r os
deleted_in h r (deletes s ∷ os) = if eqb s.handle h then s else deleted_in h r os
deleted_in h r (updates m old new ∷ os) = deleted_in h r os

-- a handle's effect from its row at the start, its row at the end, the masks between, and the row that was deleted
unfoldable pub from_outside : Option Row → Option Row → Option ℕ → (Row → Row) → Effect
from_outside none none masks last = nothing
from_outside none (some e) masks last = inserted e.table
from_outside (some s) none masks last = deleted (last s)
from_outside (some s) (some e) none last = nothing
from_outside (some s) (some e) (some m) last = updated m s

-- ---- What a net effect says of the rows

-- the same handle and table, and the same value in each column that the mask does not list
pub record OnlyIn (mask : ℕ) (old new : Row) : Type 0 where
  pub same_handle : new.handle ≡ old.handle
  pub same_table : new.table ≡ old.table
  pub elsewhere : (c : ℕ) → bit mask c ≡ false → cell new c ≡ cell old c

-- how the row of a handle at the end differs from its row at the start
pub data Differs : Effect → Option Row → Option Row → Type 0 where
  stays : {r : Option Row} → Differs nothing r r
  comes : {e : Row} → Differs (inserted e.table) none (some e)
  goes : {s r : Row} → Differs (deleted r) (some s) none
  changes : {m : ℕ} {s e : Row} → OnlyIn m s e → Differs (updated m s) (some s) (some e)
