-- In a room of bytes the rows of the transition tables have values in range, since a value is a word.
use mathlib.Core.List.{List}
use Prim.Native.Nat.{ℕ, zero, suc, ◌+◌}
use Rattle.meaning.specs.Base.{Each, no_element, an_element}
use Rattle.meaning.proofs.Parsing.{signed-fits}
use Rattle.meaning.proofs.ActionsFit.{Ranged, RangedTables}
use Rattle.words.specs.Words.{Bytes, low32_at}
use Rattle.words.proofs.Laws.{low32-lt}
use Rattle.slots.specs.Slots.{slot_at, slots_from, table_at}
use Rattle.room.specs.Room.{INSERTED, DELETED, NEW, OLD, row_meant, rows_meant, transition_in}

module _ (xs : List ℕ) (bytes : Bytes xs) where
  slots-ranged : (at n : ℕ) → Each Ranged (rows_meant (slots_from xs at n))
  unfolding rows_meant slots_from slot_at row_meant
  slots-ranged at zero = no_element
  slots-ranged at (suc n) =
      an_element
      (record {
        in_range =
            an_element (signed-fits _ (low32-lt xs bytes (at + 8)))
            (an_element (signed-fits _ (low32-lt xs bytes (at + 12)))
            (an_element (signed-fits _ (low32-lt xs bytes (at + 16)))
            (an_element (signed-fits _ (low32-lt xs bytes (at + 20))) no_element)));
      })
      (slots-ranged (at + 24) n)

  table-ranged : (base : ℕ) → Each Ranged (rows_meant (table_at xs base))
  unfolding table_at
  table-ranged base = slots-ranged (base + 4) (low32_at xs base)

  pub transition-ranged : RangedTables (transition_in xs)
  unfolding transition_in
  transition-ranged =
      record {
        of_inserted = table-ranged INSERTED;
        of_deleted = table-ranged DELETED;
        of_new = table-ranged NEW;
        of_old = table-ranged OLD;
      }
