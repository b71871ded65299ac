-- A room that was loaded represents the state at the start of a run: nothing is done, so nothing waits for any rule.
use mathlib.Core.List.{List}
use Prim.Native.Nat.{ℕ}
use Rattle.meaning.specs.Covers.{Rule, Image}
use Rattle.words.specs.Words.{Bytes}
use Rattle.room.specs.Joins.{RulesEnd}
use Rattle.room.specs.Represents.{Represents, starting}
use Rattle.room.proofs.Marks.{represents-starting}
use Rattle.loading.specs.Loads.{Loaded}

pub loaded-represents : (rules : List Rule) {start : Image} {xs ys tables : List ℕ} → Loaded start xs ys → Bytes ys → RulesEnd tables
    → Represents ys tables (starting rules start)
loaded-represents rules l bytes ended = represents-starting rules l.laid bytes l.next l.rows l.empty l.stretch ended
