-- A slot with another value in a column means its row with that value there.
use mathlib.Core.Path.{◌≡◌, refl}
use Prim.Native.Nat.{ℕ, zero, suc, ◌<◌}
use native.Mathlib.Omega.{arith}
use Rattle.meaning.specs.Values.{signed}
use Rattle.slots.specs.declared.Slot.{Slot}
use Rattle.slots.specs.Slots.{with_value}
use Rattle.room.specs.Room.{row_meant}
use Rattle.working.specs.Working.{with_cell}

pub row-valued : (e : Slot) (c v : ℕ) → c < 4 → row_meant (with_value e c v) ≡ with_cell (row_meant e) c (signed v)
unfolding row_meant with_value with_cell
row-valued e zero v h = refl
row-valued e (suc zero) v h = refl
row-valued e (suc (suc zero)) v h = refl
row-valued e (suc (suc (suc zero))) v h = refl
row-valued e (suc (suc (suc (suc c)))) v h = absurd (omega arith)
