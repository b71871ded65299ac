-- `effects::triggered` meets its contract: the code asks of each slot what the definition asks.
use mathlib.Core.Bool.{true, false}
use mathlib.Core.Path.{◌≡◌, refl, sym, ◌∙◌}
use Rattle.std.proofs.Common.{rules, tests}
use Rattle.std.proofs.lemmas.Iterator.{cases_from_any, YieldsList-from_range}
use Rattle.slots.specs.Slots.{table_at}
use Rattle.slots.proofs.Tables.{table-length}
use Rattle.room.specs.Room.{waits_in}
use Rattle.effects.proofs.Waking.{slot_wakes, any-answered}
use Rattle.effects.proofs.triggered.Goals as goal

pub returns : goal.returns
unfolding waits_in
returns c =
    let l = table_at c.args.room.now c.wait-wait.result.base in
    let p = slot_wakes c.args.rule l in
    let places = YieldsList-from_range 0 c.size.result c.size.result refl (search rules) in
    rw (← c.wait-wait.ensures)
    (any-answered c.args.rule l c.size.result c.any.result (c.size.ensures ∙ sym (table-length _ _))
    (cases_from_any _ _ _ (λ i. p i ≡ true) (λ i. p i ≡ false) c.any.ensures.ran places
    (λ x q k. search (rules, tests))
    (λ x q k. search (rules, tests))))
