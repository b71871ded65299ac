-- `effects::as_effect` meets its contract: it is the definition, field by field.
use mathlib.Core.Path.{refl}
use Rattle.room.specs.Joins.{as_effect}
use Rattle.effects.proofs.as_effect.Goals as goal

pub returns : goal.returns
unfolding as_effect
returns c = refl
