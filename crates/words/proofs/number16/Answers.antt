-- `words::number16` meets its contract: it is read where its two bytes stand in the slice.
use borrow.Author.Tests.{leb-true, leb-false}
use lib.ListN.{length}
use mathlib.Core.Path.{sym, ◌∙◌}
use Prim.Native.Nat.{◌+◌}
use Rattle.words.specs.Words.{Bytes}
use Rattle.words.proofs.Laws.{number16-read, number16-short}
use Rattle.words.proofs.number16.Goals as goal

pub returns-then-not-has : goal.returns-then-not-has
returns-then-not-has c =
    let bytes : Bytes c.args.s.now = λ i. (c.type_inv.s i).fits in
    let short = leb-false (c.args.at + 2) (length c.args.s.now) (sym c.has.ensures ∙ c.if-not-has.true) in
    sym (number16-short c.args.s.now bytes c.args.at short)

pub returns : goal.returns
returns c =
    let bytes : Bytes c.args.s.now = λ i. (c.type_inv.s i).fits in
    let stands = leb-true (c.args.at + 2) (length c.args.s.now) (sym c.has.ensures ∙ c.if-not-has.false) in
    rw c.word16.ensures.0 (sym (number16-read c.args.s.now bytes c.args.at stands))
