-- `words::agree` meets its contract: values agree where their words are equal.
use mathlib.Core.Path.{sym}
use Rattle.words.proofs.Signs.{signed-agree}
use Rattle.words.proofs.agree.Goals as goal

pub returns : goal.returns
returns c = sym (signed-agree c.args.a c.args.b c.ranges.a.fits c.ranges.b.fits)
