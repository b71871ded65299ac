-- `query::match_rows` meets its contract: a match with the rows that the source shows is one with the source's rows; with none of them it
-- holds of no row.
use Rattle.words.specs.Words.{Bytes}
use Rattle.slots.specs.Slots.{table_at}
use Rattle.query.specs.Picks.{slots_of}
use Rattle.query.proofs.Keeping.{base-stands}
use Rattle.query.proofs.Columns.{columns-agree}
use Rattle.query.proofs.Matches.{match-kept, none-every, none_any}
use Rattle.query.proofs.match_rows.Goals as goal

pub shown_rows-others-requires : goal.shown_rows-others-requires
shown_rows-others-requires c =
    base-stands c.requires.laid c.args.source c.table_of-from.ensures

pub columns_of-requires-clause-stands : goal.columns_of-requires-clause-stands
columns_of-requires-clause-stands c =
    base-stands c.requires.laid c.args.source c.table_of-from.ensures

pub returns-then-negated : goal.returns-then-negated
returns-then-negated c =
    none-every _ _ c.table_of-from.ensures c.shown_rows-others.ensures c.if-others-eq0.true _ _ _ _ c.requires.within
    c.if-negated.true

pub returns-then-others-eq0 : goal.returns-then-others-eq0
returns-then-others-eq0 c =
    none_any _ _ c.table_of-from.ensures c.shown_rows-others.ensures c.if-others-eq0.true _ _ _ _ c.requires.within _
    c.if-negated.false

pub returns : goal.returns
returns c =
    let bytes : Bytes c.args.room.now = λ i. (c.type_inv.room i).fits in
    match-kept _ _ c.table_of-from.ensures c.shown_rows-others.ensures c.pairs_at-pairs.ensures c.args.negated
    (slots_of (table_at c.args.room.now c.args.table.base) c.args.rows)
    (columns-agree _ bytes _ _ _ _ c.columns_of.ensures.columns _ _ c.columns_of.ensures.count c.kept.ensures)
