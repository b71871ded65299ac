-- `image::rows_rise` meets its contract. The loop's invariant: what is asked of all the rows is what is asked of those that are left from
-- here on, above the last handle.
use mathlib.Core.Path.{◌≡◌}
use Prim.Native.Nat.{◌-◌}
use Rattle.meaning.specs.Reading.{many}
use Rattle.meaning.specs.ByteLayouts as ByteLayouts
use Rattle.image.specs.Images.{rise_in}
use Rattle.image.proofs.rows_rise.Given as goal

abbrev pub invariant-loop : goal.invariant-loop
invariant-loop l =
    rise_in l.low l.high (many l.n ByteLayouts.row l.s l.at)
    ≡ rise_in l.last l.high (many (l.n - l.counter) ByteLayouts.row l.s l.here)
