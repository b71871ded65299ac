-- `rows::delete_row` meets its contract: the row that is found goes, and the delete, with the row as it was, joins what was
-- done since the last joining.
use native.Mathlib.Omega.{arith}
use Rattle.rows.proofs.Turning.{found_within, found-takes, found-turned, found-deleted}
use Rattle.rows.proofs.delete_row.Goals as goal

pub slot_at-old-requires : goal.slot_at-old-requires
slot_at-old-requires c =
    (omega arith, (c.requires.laid.live, found_within c.args.room.now _ _ c.find.ensures c.in-Some.is))

pub remove_at-requires : goal.remove_at-requires
remove_at-requires c =
    (omega arith, (c.requires.laid.live, found_within c.args.room.now _ _ c.find.ensures c.in-Some.is))

pub join-requires : goal.join-requires
join-requires c =
    let given = found-takes c.args.room.now _ _ c.find.ensures c.in-Some.is 2 _ c.remove_at.ensures
    c.slot_at-old.ensures c.as_effect.ensures c.requires.can_join in record { stands = given.0; takes = given.1 }

pub returns : goal.returns
returns c =
    found-deleted c.args.room.now _ _ c.find.ensures c.in-Some.is
    (found-turned c.args.room.now _ _ c.find.ensures c.in-Some.is 2 _ c.remove_at.ensures
    c.slot_at-old.ensures c.as_effect.ensures c.requires.laid c.join.ensures)
