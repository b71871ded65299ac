-- `effects::stays` meets its contract: it says yes only where the slot of the operation's handle is at the place, and is of an inserted
-- row, or of one that was updated in the columns of the update; joined, it is as it was.
use borrow.Author.Tests.{eqb-true}
use mathlib.Core.Path.{refl, sym, ◌∙◌}
use native.Mathlib.Omega.{arith}
use Rattle.effects.proofs.Joining.{hit-within, hit-place, inserted-stays, updated-stays, joined_same}
use Rattle.effects.proofs.stays.Goals as goal

pub kind_at-kind-requires : goal.kind_at-kind-requires
kind_at-kind-requires c =
    (omega arith, (c.requires.stands, hit-within _ _ _ _ (sym c.is_at.ensures ∙ c.if-not-is_at.false)))

pub mask_at-mask-requires : goal.mask_at-mask-requires
mask_at-mask-requires c =
    (omega arith, (c.requires.stands, hit-within _ _ _ _ (sym c.is_at.ensures ∙ c.if-not-is_at.false)))

pub returns-then-kind : goal.returns-then-kind
returns-then-kind c =
    let q = sym c.is_at.ensures ∙ c.if-not-is_at.false in
    λ same.
    joined_same _ _ _ c.args.op (hit-place _ _ _ c.requires.sorted q) _ q refl c.requires.stands
    (updated-stays _ _ (sym c.kind_at-kind.ensures ∙ c.if-kind.true) c.if-op-ne-UPDATED.false
    (rw (← c.mask_at-mask.ensures, ← c.wide.ensures.0) (eqb-true _ _ same)))

pub returns : goal.returns
returns c =
    let q = sym c.is_at.ensures ∙ c.if-not-is_at.false in
    λ same.
    joined_same _ _ _ c.args.op (hit-place _ _ _ c.requires.sorted q) _ q refl c.requires.stands
    (inserted-stays _ _ (sym c.kind_at-kind.ensures ∙ eqb-true _ 1 same) c.if-op-ne-UPDATED.false)
