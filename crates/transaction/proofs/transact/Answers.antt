-- `transaction::transact` meets its contract: a loaded room starts the run, a processed one holds its end, and a cleared one is the room at
-- entry past the bytes that a run is lent.
use borrow.Author.Rules.{rules}
use Rattle.meaning.proofs.Lengths.{image-length}
use Rattle.transaction.proofs.Runs.{starts, live-stands, transacts}
use Rattle.transaction.proofs.transact.Goals as goal

pub process-ended-requires-clause-starts : goal.process-ended-requires-clause-starts
process-ended-requires-clause-starts c = starts c.requires.runnable c.load.ensures (search rules)

pub hand_back-requires-clause-stands : goal.hand_back-requires-clause-stands
hand_back-requires-clause-stands c = live-stands c.requires.runnable c.load.ensures (search rules) c.process-ended.ensures

pub hand_back-requires-clause-image_len_bound : goal.hand_back-requires-clause-image_len_bound
hand_back-requires-clause-image_len_bound c = image-length _ _ c.requires.runnable.rows.image

pub returns : goal.returns
returns c =
    transacts c.requires.runnable c.load.ensures (λ k. (c.slice_known-3-1.given k).fits) c.process-ended.ensures
    c.hand_back.ensures c.clear.ensures
