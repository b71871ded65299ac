-- `fields::values_end` meets its contract: n values end after 4 n bytes, where these stand in the slice or where n is 0.
use borrow.Author.Rules.{rules}
use borrow.Author.Tests.{leb-true, leb-false}
use lib.ListN.{length}
use mathlib.Core.Path.{◌≡◌, sym, ap, ◌∙◌}
use native.Mathlib.Omega.{arith}
use Prim.Native.Nat.{◌+◌, ◌*◌}
use Rattle.std.specs.Prelude.{Some}
use Rattle.meaning.specs.ByteLayouts.{value}
use Rattle.words.specs.Words.{Bytes}
use Rattle.words.proofs.Laws.{ends-none}
use Rattle.fields.proofs.Laws.{values-end-read, values-end-short}
use Rattle.fields.proofs.values_end.Goals as goal
use Rattle.fields.proofs.values_end.Goals.{else-n-ne0-via-then-n-ne0+else-not-has, else-n-ne0-via-else-n-ne0}

pub returns-then-not-has : goal.returns-then-not-has
returns-then-not-has c =
    let bytes : Bytes c.args.s.now = λ i. (c.type_inv.s i).fits in
    let short = leb-false (c.args.at + c.args.n * 4) (length c.args.s.now) (sym c.has.ensures ∙ c.if-not-has.true) in
    sym (values-end-short c.args.s.now bytes c.args.n c.args.at (search rules) short)

pub returns : goal.returns
returns c =
    let bytes : Bytes c.args.s.now = λ i. (c.type_inv.s i).fits in
    elim c.else-n-ne0.branch [
      | else-n-ne0-via-then-n-ne0+else-not-has w ↦
          let fits = leb-true (c.args.at + c.args.n * 4) (length c.args.s.now) (sym w.has.ensures ∙ w.if-not-has.false) in
          sym (values-end-read c.args.s.now bytes c.args.n c.args.at fits)
      | else-n-ne0-via-else-n-ne0 w ↦
          let none = w.if-n-ne0.false in
          let here : c.args.at ≡ c.args.at + c.args.n * 4 = omega arith in
          sym (ends-none value c.args.n c.args.s.now c.args.at (omega arith) ∙ ap Some here)
    ]
