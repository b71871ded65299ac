-- What was read off a well-formed image and book can be run.
use mathlib.Core.List.{List}
use Prim.Native.Nat.{ℕ}
use Rattle.transaction.specs.declared.ReadOff.{ReadOff}
use Rattle.transaction.specs.Transacts.{Accepts, Runnable}

pub accepted-runnable : {image book : List ℕ} {a : ReadOff} → Accepts image book a → Runnable image book a
accepted-runnable ok = record { rows = ok.rows; lists = ok.planned.lists }
