-- `book::judge` meets its contract. In a right frame a step limit and a rule count are read where the layout reads them, and as many rules,
-- which must end where the slice ends.
use lib.ListN.{length}
use mathlib.Core.Bool.{false}
use mathlib.Core.Logic.{inl, inr}
use mathlib.Core.Path.{◌≡◌, sym, ◌∙◌}
use native.Mathlib.Omega.{arith}
use Rattle.meaning.specs.Base.{within}
use Rattle.meaning.specs.ByteLayouts.{rule, book}
use Rattle.meaning.specs.Covers.{Book}
use Rattle.meaning.specs.Reading.{got, byte_within, number16, many}
use Rattle.meaning.proofs.Parsing.{true-within}
use Rattle.words.specs.Words.{Bytes, readable}
use Rattle.words.proofs.Laws.{short-bad, ends-readable}
use Rattle.fields.proofs.Laws.{frame_refused, fields-refused, length-refused, fields-taken}
use Rattle.book.specs.Books.{book_meant}
use Rattle.book.proofs.Laws.{below, above, number16-after, byte-after}
use Rattle.book.proofs.judge.Goals as goal

pub returns-then-not-well_framed-clause-result_value : goal.returns-then-not-well_framed-clause-result_value
unfolding book
returns-then-not-well_framed-clause-result_value c =
    let bytes : Bytes c.args.s.now = λ i. (c.type_inv.s i).fits in
    let unframed = sym c.well_framed.ensures ∙ c.if-not-well_framed.true in
    sym (frame_refused _ c.args.s.now bytes unframed)

pub returns-in_err-limit-clause-result_value : goal.returns-in_err-limit-clause-result_value
unfolding book
returns-in_err-limit-clause-result_value c =
    let bytes : Bytes c.args.s.now = λ i. (c.type_inv.s i).fits in
    let framed = sym c.well_framed.ensures ∙ c.if-not-well_framed.false in
    rw c.from_residual.ensures
    (sym (fields-refused _ c.args.s.now bytes framed (rw (← c.number16.ensures, c.in_err-limit.was))))

pub returns-then-limit-lt1-clause-result_value : goal.returns-then-limit-lt1-clause-result_value
unfolding book
returns-then-limit-lt1-clause-result_value c =
    let bytes : Bytes c.args.s.now = λ i. (c.type_inv.s i).fits in
    let framed = sym c.well_framed.ensures ∙ c.if-not-well_framed.false in
    let limit = c.in_ok-limit.limit in
    let wrong : within 1 1000 limit ≡ false =
    elim c.then-limit-lt1.either [ inl low ↦ below 1 1000 limit low | inr high ↦ above 1 1000 limit high.1 ]
    in sym (fields-refused _ c.args.s.now bytes framed (rw (← c.number16.ensures, c.in_ok-limit.was, wrong)))

pub returns-in_err-count-clause-result_value : goal.returns-in_err-count-clause-result_value
unfolding book
returns-in_err-count-clause-result_value c =
    let bytes : Bytes c.args.s.now = λ i. (c.type_inv.s i).fits in
    let framed = sym c.well_framed.ensures ∙ c.if-not-well_framed.false in
    let right = true-within 1 1000 c.in_ok-limit.limit (omega arith) (omega arith) in
    rw c.from_residual-in_err-count.ensures
    (sym
    (fields-refused _ c.args.s.now bytes framed
    (rw (← c.number16.ensures, c.in_ok-limit.was, right, ← c.byte_within.ensures.reads, c.in_err-count.was))))

pub returns-in_err-end-clause-result_value : goal.returns-in_err-end-clause-result_value
unfolding book
returns-in_err-end-clause-result_value c =
    let bytes : Bytes c.args.s.now = λ i. (c.type_inv.s i).fits in
    let framed = sym c.well_framed.ensures ∙ c.if-not-well_framed.false in
    let right = true-within 1 1000 c.in_ok-limit.limit (omega arith) (omega arith) in
    let rules = many c.in_ok-count.count (rule c.in_ok-count.count) c.args.s.now c.in_ok-count.first in
    let short = short-bad rules (sym c.many_end.ensures ∙ c.in_err-end.was) in
    rw c.from_residual-in_err-end.ensures
    (sym
    (fields-refused _ c.args.s.now bytes framed
    (rw (← c.number16.ensures, c.in_ok-limit.was, right, ← c.byte_within.ensures.reads, c.in_ok-count.was, short))))

pub returns-then-end-s-clause-result_value : goal.returns-then-end-s-clause-result_value
unfolding book
returns-then-end-s-clause-result_value c =
    let bytes : Bytes c.args.s.now = λ i. (c.type_inv.s i).fits in
    let framed = sym c.well_framed.ensures ∙ c.if-not-well_framed.false in
    let right = true-within 1 1000 c.in_ok-limit.limit (omega arith) (omega arith) in
    let n = c.in_ok-count.count in
    let read = ends-readable (rule n) n c.args.s.now c.in_ok-count.first c.in_ok-end.end (sym c.many_end.ensures ∙ c.in_ok-end.was) in
    let value : Book = record { limit = c.in_ok-limit.limit; rules = readable n (rule n) c.args.s.now c.in_ok-count.first } in
    sym
    (length-refused _ c.args.s.now bytes framed value c.in_ok-end.end
    (rw (← c.number16.ensures, c.in_ok-limit.was, right, ← c.byte_within.ensures.reads, c.in_ok-count.was, read))
    (λ all. omega arith))

pub returns : goal.returns
unfolding book_meant book
returns c =
    let bytes : Bytes c.args.s.now = λ i. (c.type_inv.s i).fits in
    let framed = sym c.well_framed.ensures ∙ c.if-not-well_framed.false in
    let right = true-within 1 1000 c.in_ok-limit.limit (omega arith) (omega arith) in
    let n = c.in_ok-count.count in
    let limited : number16 c.args.s.now 5 ≡ got c.in_ok-limit.limit c.in_ok-limit.after = rw (← c.number16.ensures, c.in_ok-limit.was) in
    let counted : byte_within 0 16 c.args.s.now c.in_ok-limit.after ≡ got n c.in_ok-count.first =
    rw (← c.byte_within.ensures.reads, c.in_ok-count.was)
    in
    let first : c.in_ok-count.first ≡ 8 = omega (arith, number16-after c.args.s.now 5 limited, byte-after c.args.s.now c.in_ok-limit.after 0 16 counted) in
    let end = sym c.many_end.ensures ∙ c.in_ok-end.was in
    let read = rw first at (ends-readable (rule n) n c.args.s.now c.in_ok-count.first c.in_ok-end.end end) in
    let filled : c.in_ok-end.end ≡ length c.args.s.now = omega arith in
    let taken = fields-taken _ c.args.s.now bytes framed _ c.in_ok-end.end (rw (limited, right, counted, first, read)) filled in
    record {
      result_value = sym taken;
      told = record { few = c.in_ok-count.ensures.within.high_bound; read = rw (← filled) read; book = taken };
    }
