-- `image::put_head` meets its contract: stores keep the length, and those of the four fields are the head at the front.
use Prim.Native.Nat.{◌+◌, ◌*◌}
use Rattle.image.proofs.Laws.{put-head}
use Rattle.image.proofs.put_head.Goals as goal

pub returns : goal.returns
returns c =
    put-head c.args.out.now (7 + 21 * c.args.count) c.args.next c.args.count c.requires.in_bounds c.put32.ensures c.put32-2.ensures
    c.put16.ensures
