-- Transition tables: which rows a rule is shown at a consideration.
use Rattle.std.specs.Prelude.{◌≡◌, ◌↔◌, true, List, [], ◌∷◌, ◌++◌, ℕ, suc, ◌≤◌}
use Rattle.std.proofs.Math.Option.{some}
use Rattle.meaning.specs.Base.{bit, ◌∈◌, Each}
use Rattle.meaning.specs.Covers.{Row, Rule}
use Rattle.meaning.specs.RowOperations.{NetEffect, inserted, deleted, updated, effect_at, row_at}
use Rattle.meaning.specs.Processing.{Event}
use Rattle.meaning.specs.Processing.TransitionTables.{Transition, transition}
use Rattle.meaning.specs.Trace.{operations_in, since_last, Differs, Consideration}
use Rattle.meaning.specs.Made.{Live}
use Rattle.meaning.specs.Runs.{Accepted, ending_of, numbered, image_after}

-- the mask meets the rule's columns: a column is in both
abbrev pub Meets : Rule → ℕ → Type 0
Meets r mask = (c : ℕ) × (bit mask c ≡ true) × (bit r.columns c ≡ true)

-- what is given says of the row's handle that it was updated, with a mask that meets the rule's columns and this old row
abbrev pub UpdatedFrom : Rule → NetEffect → Row → Row → Type 0
UpdatedFrom r given x old = (mask : ℕ) × (effect_at x.handle given ≡ updated mask old) × Meets r mask

-- by rising handle from low on, so each handle once
abbrev pub RisesFrom : ℕ → List Row → Type 0
RisesFrom low [] = Unit {0}
RisesFrom low (x ∷ xs) = (low ≤ x.handle) × RisesFrom (suc x.handle) xs

-- what rule r is shown of what it is given, where these rows are live: only rows of its own table
pub record ShowsRows (r : Rule) (given : NetEffect) (rows : List Row) (t : Transition) : Type 0 where
  -- as inserted, exactly the live rows whose handles were inserted
  pub inserted_rows : (x : Row)
      → (x ∈ t.inserted_rows) ↔ ((effect_at x.handle given ≡ inserted x.table) × Live rows x × (x.table ≡ r.table))
  -- as deleted, exactly the rows with which handles were deleted
  pub deleted_rows : (x : Row) → (x ∈ t.deleted_rows) ↔ ((effect_at x.handle given ≡ deleted x) × (x.table ≡ r.table))
  -- as new-updated, exactly the live rows whose handles were updated with a mask that meets the rule's columns
  pub new_updated : (x : Row) → (x ∈ t.new_updated) ↔ (((old : Row) × UpdatedFrom r given x old) × Live rows x × (x.table ≡ r.table))
  -- as old-updated, exactly the old rows with which such handles were updated
  pub old_updated : (x : Row) → (x ∈ t.old_updated) ↔ (UpdatedFrom r given x x × (x.table ≡ r.table))
  -- in each table each handle once, rising
  pub rise : Each (RisesFrom 0) (t.inserted_rows ∷ t.deleted_rows ∷ t.new_updated ∷ t.old_updated ∷ [])

module _ {image book log : List ℕ} (a : Accepted image book log) where
  pub record Shows : Type 0 where
    -- at each consideration the rule is shown this, of what it is given and of the rows that are live then
    pub rows : (c : Consideration (ending_of a)) (r : Rule) → numbered a c.number ≡ some r
        → let live = (image_after a c.before).rows in ShowsRows r c.given live (transition r live c.given)
    -- what it is given says how they differ from the rows at the point since which it waited: an old row is the live row of that point
    pub since : (c : Consideration (ending_of a)) (past stretch : List Event) → c.before ≡ past ++ stretch
        → operations_in stretch ≡ since_last c.number c.before → (h : ℕ)
        → Differs (effect_at h c.given) (row_at h (image_after a past).rows) (row_at h (image_after a c.before).rows)
