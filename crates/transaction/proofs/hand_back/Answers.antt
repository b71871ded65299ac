-- `transaction::hand_back` meets its contract: each branch writes what `handed` says of it.
use Rattle.transaction.specs.Handed.{handed}
use Rattle.transaction.proofs.hand_back.Goals as goal

pub returns-then-commits : goal.returns-then-commits
unfolding handed
returns-then-commits c =
    rw (← c.commits.ensures, c.if-commits.true) c.put_image.ensures

pub returns-else-commits : goal.returns-else-commits
unfolding handed
returns-else-commits c =
    rw (← c.commits.ensures, c.if-commits.false) c.put_bytes.ensures
