-- `words::put16` meets its contract: the bytes of the number overwrite the part.
use mathlib.Core.Path.{◌≡◌, ◌∙◌}
use native.Mathlib.Omega.{arith}
use Prim.Native.Nat.{◌/◌, ◌%◌}
use Rattle.meaning.specs.ByteLayouts.{bytes2}
use Rattle.words.proofs.Laws.{part-sets}
use Rattle.words.proofs.put16.Goals as goal

pub returns : goal.returns
unfolding bytes2
returns c =
    let v = c.args.v in
    let high : v % 65536 / 256 % 256 ≡ v / 256 % 256 = omega arith in
    let low : v % 65536 % 256 ≡ v % 256 = omega arith in
    part-sets c.args.s.now c.args.at (bytes2 v) (c.copy_from_slice.ensures.after ∙ c.to_be_bytes.ensures ∙ rw (high, low)) (omega arith) c.requires
