-- `consider::consider` meets its contract: the rule is read where the plan says that it stands, its transition tables are drawn, and then
-- its condition is asked and its actions run.
use borrow.Author.Rules.{rules}
use Prim.Native.Nat.{◌<◌}
use native.Mathlib.Omega.{arith}
use Rattle.room.proofs.Live.{live-sorted}
use Rattle.room.proofs.Draws.{draw-few}
use Rattle.consider.proofs.Marked.{running-drawn}
use Rattle.plan.proofs.Standing.{can-read}
use Rattle.consider.proofs.Considered.{drawn, considers-acts, considers-none}
use Rattle.consider.proofs.consider.Goals as goal

pub returns-in_default : goal.returns-in_default
returns-in_default c =
    absurd (can-read (c.requires.lists.placed _ c.requires.count_bound) c.rule_at.ensures c.in_default.is)

pub draw-requires-clause-sorted : goal.draw-requires-clause-sorted
draw-requires-clause-sorted c = live-sorted c.requires.ready.reached c.requires.ready.settled.represents

pub draw-requires-clause-few : goal.draw-requires-clause-few
draw-requires-clause-few c =
    let low : c.args.k < 16 = omega (arith, c.requires.count_bound, c.args.plan.now.few) in
    draw-few c.requires.ready.settled _ low c.requires.k_bound c.requires.ready.reached _

pub returns-then-not-condition_holds : goal.returns-then-not-condition_holds
returns-then-not-condition_holds c =
    let d =
    drawn c.requires.count_bound c.requires.lists c.requires.k_bound c.rule_at.ensures c.in-Some.is c.watch.ensures
    c.draw.ensures (search rules) in
    considers-none d c.condition_holds.ensures c.if-not-condition_holds.true

pub run_actions-requires : goal.run_actions-requires
run_actions-requires c =
    running-drawn c.requires.ready c.draw.ensures (search rules)

pub returns : goal.returns
returns c =
    let d =
    drawn c.requires.count_bound c.requires.lists c.requires.k_bound c.rule_at.ensures c.in-Some.is c.watch.ensures
    c.draw.ensures (search rules) in
    considers-acts d c.condition_holds.ensures c.if-not-condition_holds.false c.run_actions.ensures
