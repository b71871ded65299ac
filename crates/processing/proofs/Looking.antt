-- Before the first triggered rule is asked for, what was done joins what waits: every state that the room represents is one that it then
-- represents, all settled.
use Rattle.std.specs.Prelude.{Option}
use mathlib.Core.List.{List}
use Prim.Native.Nat.{ℕ}
use Rattle.words.specs.Words.{Bytes}
use Rattle.room.specs.Joins.{Settleable, AllSettled}
use Rattle.room.proofs.Settling.{settleable, settles}
use Rattle.plan.specs.declared.Plan.{Plan}
use Rattle.trigger.specs.Triggers.{TriggersFirst}
use Rattle.processing.specs.Rest.{Midway, Looks}

pub midway-settleable : {xs book : List ℕ} {plan : Plan} → Midway xs book plan → Settleable xs plan.tables
midway-settleable m = settleable m.reaches.reached m.reaches.represents

pub looks : {xs ys book : List ℕ} {plan : Plan} {r : Option ℕ} → Bytes ys → AllSettled xs ys plan.tables → TriggersFirst ys book plan r
    → Looks xs ys book plan r
looks bytes d first =
    record {
      beyond = d.beyond;
      rests = λ start s a.
          record { reached = a.reached; settled = settles a.reached a.represents bytes d; marks = a.marks };
      first = first;
    }
