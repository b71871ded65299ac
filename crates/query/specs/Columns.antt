-- Columns of picked rows, and what a match wants of a row of them.
use Rattle.std.specs.Prelude.{◌≡◌, Bool, false, not, ◌&&◌, ◌||◌, List, ℕ, zero, suc, ◌≤◌, ◌<◌, eqb, length, get_or, if◌then◌else◌}
use Rattle.meaning.specs.Base.{any}
use Rattle.slots.specs.declared.Slot.{Slot}
use Rattle.slots.specs.Slots.{blank, slot_value}
use Rattle.room.specs.Room.{row_meant}
use Rattle.query.specs.declared.Picked.{Picked}
use Rattle.query.specs.declared.Pairs.{Pairs}
use Rattle.query.specs.declared.Wanted.{Wanted}
use Rattle.query.specs.Picks.{agree_on_four}

-- one pair more in front; the last gives way
unfoldable pub with_pair : ℕ → ℕ → Pairs → Pairs
with_pair own other p =
    record {
      own0 = own;
      other0 = other;
      own1 = p.own0;
      other1 = p.other0;
      own2 = p.own1;
      other2 = p.other1;
      own3 = p.own2;
      other3 = p.other2;
    }

-- from n on every place of 64 has the value of the first
pub record Padded (n : ℕ) (values : List ℕ) : Type 0 where
  pub after : (j : ℕ) → n ≤ j → j < 64 → get_or values j 0 ≡ get_or values 0 0

-- the values of the picked rows of a table in a column, one after another; every place after the last has the first
pub record ColumnOf (l : List Slot) (p : Picked) (column : ℕ) (values : List ℕ) : Type 0 where
  pub placed : p.count ≤ length p.places
  pub held : (j : ℕ) → j < p.count → get_or values j 0 ≡ slot_value (get_or l (get_or p.places j 0) blank) column
  pub padded : Padded p.count values

-- the columns of the pairs' source side
pub record ColumnsOf (l : List Slot) (rows : Picked) (p : Pairs) (s0 s1 s2 s3 : List ℕ) : Type 0 where
  pub first : ColumnOf l rows p.other0 s0
  pub second : ColumnOf l rows p.other1 s1
  pub third : ColumnOf l rows p.other2 s2
  pub fourth : ColumnOf l rows p.other3 s3

-- what a row has in the own columns of the pairs
unfoldable pub wanted_of : Pairs → Slot → Wanted
wanted_of p e =
    record { v0 = slot_value e p.own0; v1 = slot_value e p.own1; v2 = slot_value e p.own2; v3 = slot_value e p.own3 }

-- the row j of four columns has what is wanted
unfoldable pub has_at : List ℕ → List ℕ → List ℕ → List ℕ → Wanted → ℕ → Bool
has_at s0 s1 s2 s3 w j =
    eqb (get_or s0 j 0) w.v0 && (eqb (get_or s1 j 0) w.v1 && (eqb (get_or s2 j 0) w.v2 && eqb (get_or s3 j 0) w.v3))

-- one of the first n numbers passes
unfoldable pub some_below : (ℕ → Bool) → ℕ → Bool
some_below p zero = false
some_below p (suc n) = p n || some_below p n

-- a row agrees on four pairs with one of some rows
unfoldable pub agrees_with : Pairs → List Slot → Slot → Bool
agrees_with p l e = any (λ x. agree_on_four p (row_meant e) (row_meant x)) l

-- a test, or its opposite
unfoldable pub kept_by : Bool → Bool → Bool
kept_by negated found = if negated then not found else found
