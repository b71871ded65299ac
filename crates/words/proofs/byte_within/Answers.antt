-- `words::byte_within` meets its contract: past the slice there is no byte, and in it the byte is tested from both sides.
use borrow.Author.Rules.{rules}
use lib.ListN.{length}
use mathlib.Core.Logic.{inl, inr}
use mathlib.Core.Path.{◌≡◌, sym}
use native.Mathlib.Omega.{arith}
use Prim.Native.Nat.{◌≤◌}
use Rattle.meaning.specs.Reading.{byte_at}
use Rattle.words.proofs.Laws.{byte_past, byte-within-yes, byte-within-low, byte-within-high}
use Rattle.words.proofs.byte_within.Goals as goal

pub returns-in_err-x-clause-reads : goal.returns-in_err-x-clause-reads
returns-in_err-x-clause-reads c =
    let past : length c.args.s.now ≤ c.args.at = search rules in
    let none = byte_past c.args.s.now c.args.at past in
    rw c.from_residual.ensures (sym (byte-within-high c.args.low c.args.high c.args.s.now c.args.at (omega arith)))

pub returns-then-x-low-clause-reads : goal.returns-then-x-low-clause-reads
returns-then-x-low-clause-reads c =
    let here : c.in_ok-x.field-0.now ≡ byte_at c.args.s.now c.args.at = search rules in
    elim c.then-x-low.either [
      | inl below ↦ sym (byte-within-low c.args.low c.args.high c.args.s.now c.args.at (omega arith))
      | inr above ↦ sym (byte-within-high c.args.low c.args.high c.args.s.now c.args.at (omega arith))
    ]

pub returns-clause-reads : goal.returns-clause-reads
returns-clause-reads c =
    let here : c.in_ok-x.field-0.now ≡ byte_at c.args.s.now c.args.at = search rules in
    rw (c.wide.ensures.0, here)
    (sym (byte-within-yes c.args.low c.args.high c.args.s.now c.args.at (omega arith) (omega arith)))
