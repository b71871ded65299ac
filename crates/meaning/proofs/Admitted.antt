-- Every operation of a run fits the image that it is made on, and its mask is 1..15: both are so of all operations in their order, and a
-- place in a trace is a place among them.
use mathlib.Core.Path.{subst}
use mathlib.Core.List.{List, [], ◌∷◌, ◌++◌}
use Prim.Native.Nat.{ℕ}
use Rattle.meaning.specs.Base.{Each, an_element}
use Rattle.meaning.specs.Covers.{Image}
use Rattle.meaning.specs.RowOperations.{RowOperation}
use Rattle.meaning.specs.Processing.{made}
use Rattle.meaning.specs.Trace.{operations_in, Making}
use Rattle.meaning.specs.Made.{Fits, Made, more}
use Rattle.meaning.specs.Runs.{Accepted, ending_of, image_after}
use Rattle.meaning.specs.Theorems.Admitted.{Admitted}
use Rattle.meaning.proofs.Lookups.{made-back}
use Rattle.meaning.proofs.Images.{make_all-sound}
use Rattle.meaning.proofs.Traces.{operations-append}
use Rattle.meaning.proofs.RunsFit.{run_sound, made-around, made_at}
use Rattle.meaning.proofs.Masked.{Masked, run-masks}

first_fits : {m : Image} {o : RowOperation} {os : List RowOperation} → Made m (o ∷ os) → Fits m o
first_fits (more f g) = f

each_at : {A : Type 0} {P : A → Type 0} (xs : List A) (x : A) (ys : List A) → Each P (xs ++ (x ∷ ys)) → P x
each_at [] x ys (an_element p ps) = p
each_at (y ∷ xs) x ys (an_element p ps) = each_at xs x ys ps

module _ {image book log : List ℕ} (a : Accepted image book log) where
  mask_at : (o : Making (ending_of a)) → Masked o.operation
  unfolding operations_in
  mask_at o =
      each_at {P = Masked} (operations_in o.before) o.operation (operations_in o.after)
      (rw (o.place, operations-append o.before (made o.operation ∷ o.after)) at (run-masks a))

  pub admitted : Admitted a
  unfolding image_after operations_in
  admitted =
      record {
        each = λ o.
            first_fits (made-back (operations_in o.before) (o.operation ∷ operations_in o.after)
            (made-around a o.before (made o.operation ∷ o.after) o.place));
        masks = λ o mask old new q. subst Masked q (mask_at o);
        sound = λ p. make_all-sound (run_sound a) (made_at a p.before p.after p.place);
      }
