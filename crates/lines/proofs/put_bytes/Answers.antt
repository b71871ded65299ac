-- `lines::put_bytes` meets its contract: bytes that are copied to a part are stored from its start on.
use Rattle.lines.proofs.Texts.{puts-part}
use Rattle.lines.proofs.put_bytes.Goals as goal

pub returns : goal.returns
returns c = rw c.copy_from_slice.ensures.after (puts-part c.args.out.now c.args.s.now c.args.at c.requires)
