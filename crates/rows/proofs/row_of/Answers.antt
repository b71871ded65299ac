-- `rows::row_of` meets its contract: it is the definition, field by field.
use mathlib.Core.Path.{refl}
use Rattle.rows.specs.Rows.{row_of}
use Rattle.rows.proofs.row_of.Goals as goal

pub returns : goal.returns
unfolding row_of
returns c = refl
