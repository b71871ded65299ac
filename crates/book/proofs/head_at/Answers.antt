-- `book::head_at` meets its contract: where the last field before the condition ends is inside the slice.
use Rattle.words.proofs.Laws.{reads-got}
use Rattle.book.proofs.Inside.{number16-inside, inside-ends}
use Rattle.book.proofs.head_at.Goals as goal

pub returns-clause-result_in_bounds : goal.returns-clause-result_in_bounds
returns-clause-result_in_bounds c =
    let read = reads-got c.number16.ensures c.in_ok-precedes.was in
    (inside-ends (number16-inside c.args.s.now c.in_ok-columns.after_columns) read).1
