-- `query::pairs_at` meets its contract. The loop's invariant: the n pairs say the same as the four so far and those that are left.
use borrow.Author.Rules.{rules}
use mathlib.Core.Path.{◌≡◌}
use Prim.Native.Nat.{◌+◌, ◌-◌}
use native.Mathlib.Omega.{arith}
use Rattle.query.proofs.Laws.{pair-own-wrong, pair-other-wrong, pair_read}
use Rattle.query.proofs.Gathered.{first_some, first-own, first-other, gathering-start, gathered-all, gathered-bad}
use Rattle.query.proofs.Gathered.{gathering-more}
use Rattle.query.proofs.pairs_at.Goals as goal

pub overflow_add-at : goal.overflow_add-at
overflow_add-at c = let low = first-own _ _ _ c.requires.in_bounds c.byte-own0.ensures in search rules

pub overflow_add-here : goal.overflow_add-here
overflow_add-here c =
    let low = first-other _ _ _ c.requires.in_bounds c.byte-own0.ensures c.byte-other0.ensures in
    search rules

pub loop-init : goal.loop-init
loop-init c =
    let next : c.args.at + 2 ≡ c.args.at + 1 + 1 = omega arith in
    rw next
    (gathering-start (first_some _ _ _ c.requires.in_bounds) c.requires.at_len_bound
    (pair_read c.byte-own0.ensures (first-own _ _ _ c.requires.in_bounds c.byte-own0.ensures) c.byte-other0.ensures (first-other _ _ _ c.requires.in_bounds c.byte-own0.ensures c.byte-other0.ensures)))

pub returns-then-own-gt3 : goal.returns-then-own-gt3
returns-then-own-gt3 c =
    gathered-bad c.loop.invariant (pair-own-wrong c.byte-own.ensures c.if-own-gt3.true)

pub returns-then-other-gt3 : goal.returns-then-other-gt3
returns-then-other-gt3 c =
    gathered-bad c.loop.invariant (pair-other-wrong c.byte-own.ensures c.if-own-gt3.false c.byte-other.ensures c.if-other-gt3.true)

pub loop-preserved : goal.loop-preserved
loop-preserved c =
    let rest : c.args.n - (c.loop.counter + 1) ≡ c.args.n - c.loop.counter - 1 = omega arith in
    let next : c.loop.here + 2 ≡ c.loop.here + 1 + 1 = omega arith in
    rw (c.with_pair-p.ensures, rest, next)
    (gathering-more c.loop.invariant (omega (arith, c.loop-test.true))
    (pair_read c.byte-own.ensures c.if-own-gt3.false c.byte-other.ensures c.if-other-gt3.false))

pub returns : goal.returns
returns c = gathered-all c.loop.invariant (omega (arith, c.loop-test.false))
