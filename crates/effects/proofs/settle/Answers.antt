-- `effects::settle` meets its contract: where nothing was done there is nothing to join; else each table is settled, and then the stretch
-- and the tables under the spare one are emptied.
use mathlib.Core.Path.{sym, ◌∙◌}
use Rattle.effects.proofs.AllTables.{settled-all, settled-none}
use Rattle.effects.proofs.settle.Goals as goal

pub returns-then-size-eq0 : goal.returns-then-size-eq0
returns-then-size-eq0 c =
    settled-none c.requires (sym c.size.ensures ∙ c.if-size-eq0.true)

pub returns : goal.returns
returns c =
    settled-all c.requires c.settle_tables.ensures c.empty.ensures c.empty-2.ensures c.empty-3.ensures
