-- Own table: what a rule keeps of other tables matters to nobody. It neither wakes the rule nor is shown to it.
use Rattle.std.specs.Prelude.{◌≡◌, List, ℕ}
use Rattle.std.proofs.Math.Option.{some}
use Rattle.meaning.specs.Base.{any}
use Rattle.meaning.specs.Covers.{Rule}
use Rattle.meaning.specs.RowOperations.{NetEffect, own_of}
use Rattle.meaning.specs.Processing.TransitionTables.{wakes, transition}
use Rattle.meaning.specs.Trace.{Consideration}
use Rattle.meaning.specs.Runs.{Accepted, ending_of, numbered, image_after}

module _ {image book log : List ℕ} (a : Accepted image book log) where
  pub record OwnTable : Type 0 where
    -- what is said of its own table wakes a rule exactly when all that is said does
    pub wakes : (r : Rule) (n : NetEffect) → any (λ p. wakes r p.1) (own_of r.table n) ≡ any (λ p. wakes r p.1) n
    -- at each consideration, what the rule is given of its own table makes the same transition tables as all that it is given
    pub shows : (c : Consideration (ending_of a)) (r : Rule) → numbered a c.number ≡ some r
        → let live = (image_after a c.before).rows in transition r live (own_of r.table c.given) ≡ transition r live c.given
