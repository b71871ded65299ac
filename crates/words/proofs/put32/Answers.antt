-- `words::put32` meets its contract: the bytes of the number overwrite the part.
use mathlib.Core.Path.{◌∙◌}
use native.Mathlib.Omega.{arith}
use Rattle.meaning.specs.ByteLayouts.{bytes4}
use Rattle.words.proofs.Laws.{part-sets}
use Rattle.words.proofs.put32.Goals as goal

pub returns : goal.returns
unfolding bytes4
returns c = part-sets c.args.s.now c.args.at (bytes4 c.args.v) (c.copy_from_slice.ensures.after ∙ c.to_be_bytes.ensures) (omega arith) c.requires
