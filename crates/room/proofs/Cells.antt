-- A slot's value in a column is its row's, past the last column too, since the values of a row are those of its slot, one by one.
use mathlib.Core.Path.{◌≡◌, sym}
use mathlib.Core.List.{[], ◌∷◌}
use Prim.Native.Nat.{ℕ}
use lib.ListN.{get_or-map}
use Rattle.meaning.specs.Values.{signed}
use Rattle.meaning.specs.Processing.Queries.{cell}
use Rattle.slots.specs.declared.Slot.{Slot}
use Rattle.slots.specs.Slots.{slot_value}
use Rattle.room.specs.Room.{row_meant}

pub value_cell : (e : Slot) (c : ℕ) → signed (slot_value e c) ≡ cell (row_meant e) c
unfolding slot_value cell row_meant signed
value_cell e c = sym (get_or-map signed (e.v0 ∷ e.v1 ∷ e.v2 ∷ e.v3 ∷ []) c 0)
