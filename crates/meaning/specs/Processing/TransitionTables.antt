-- What wakes a rule, and its transition tables: of what the rule is given, only rows of its own table, fixed at the consideration.
use Rattle.std.specs.Prelude.{Bool, false, ◌&&◌, not, List, ℕ, eqb, if◌then◌else◌}
use Rattle.std.proofs.Math.Option.{Option, none, some}
use Rattle.std.specs.Int.Bits.{bit_and}
use Rattle.meaning.specs.Base.{maybe, bit, gather}
use Rattle.meaning.specs.Covers.{Row, Rule}
use Rattle.meaning.specs.RowOperations.{Effect, NetEffect, row_at}
use Rattle.meaning.specs.RowOperations.{nothing, inserted, deleted, updated}

-- the inserted, deleted, new-updated and old-updated rows
pub record Transition : Type 0 where
  pub inserted_rows : List Row
  pub deleted_rows : List Row
  pub new_updated : List Row
  pub old_updated : List Row

module _ (rule : Rule) where
  unfoldable pub own_table : ℕ → Bool
  own_table t = eqb t rule.table

  -- the mask meets the rule's columns
  unfoldable pub meets : ℕ → Bool
  meets mask = not (eqb (bit_and mask rule.columns) 0)

  -- On its own table, an inserted handle (bit 0), a deleted one (bit 1), or an updated one whose mask meets the rule's columns (bit 2).
  unfoldable pub wakes : Effect → Bool
  wakes nothing = false
  wakes (inserted t) = bit rule.triggers 0 && own_table t
  wakes (deleted r) = bit rule.triggers 1 && own_table r.table
  wakes (updated m r) = bit rule.triggers 2 && own_table r.table && meets m

  unfoldable pub own_row : Row → Option Row
  own_row r = if own_table r.table then some r else none

  unfoldable pub deleted_row : Effect → Option Row
  deleted_row nothing = none
  deleted_row (inserted t) = none
  deleted_row (deleted r) = own_row r
  deleted_row (updated m r) = none

  -- updated tables hold whole rows, only those whose mask meets the rule's columns
  unfoldable pub old_row : Effect → Option Row
  old_row nothing = none
  old_row (inserted t) = none
  old_row (deleted r) = none
  old_row (updated m r) = if meets m then own_row r else none

  -- `rows` are the live rows at the consideration: inserted and new-updated show values as of then
  module _ (rows : List Row) where
    unfoldable pub live_row : ℕ → Option Row
    live_row h = maybe (row_at h rows) none own_row

    unfoldable pub inserted_row : ℕ → Effect → Option Row
    inserted_row h nothing = none
    inserted_row h (inserted t) = live_row h
    inserted_row h (deleted r) = none
    inserted_row h (updated m r) = none

    unfoldable pub new_row : ℕ → Effect → Option Row
    new_row h nothing = none
    new_row h (inserted t) = none
    new_row h (deleted r) = none
    new_row h (updated m r) = if meets m then live_row h else none

    unfoldable pub transition : NetEffect → Transition
    transition given =
        record {
          inserted_rows = gather (λ p. inserted_row p.0 p.1) given;
          deleted_rows = gather (λ p. deleted_row p.1) given;
          new_updated = gather (λ p. new_row p.0 p.1) given;
          old_updated = gather (λ p. old_row p.1) given;
        }
