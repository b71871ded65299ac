-- `image::row_at` meets its contract: its words are those that the specification's row has there.
use borrow.Author.Rules.{rules}
use Rattle.words.specs.Words.{Bytes}
use Rattle.image.proofs.Laws.{row_read}
use Rattle.image.proofs.row_at.Goals as goal

pub returns : goal.returns
returns c =
    let bytes : Bytes c.args.s.now = λ i. (c.type_inv.s i).fits in
    rw (
      c.word32-5.ensures,
      c.word32-4.ensures,
      c.word32-3.ensures,
      c.word32-2.ensures,
      c.byte.ensures.is,
      c.word32.ensures,
    )
    (row_read c.args.s.now bytes c.args.at (search rules))
