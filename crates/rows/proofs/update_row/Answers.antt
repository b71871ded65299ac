-- `rows::update_row` meets its contract: the new row takes the place of the one that is found, and the update, with the old row, joins
-- what was done since the last joining.
use native.Mathlib.Omega.{arith}
use Rattle.rows.proofs.Turning.{found_within, found-takes, found-turned, found-updated}
use Rattle.rows.proofs.update_row.Goals as goal

pub slot_at-old-requires : goal.slot_at-old-requires
slot_at-old-requires c =
    (omega arith, (c.requires.laid.live, found_within c.args.room.now _ _ c.find_near.ensures c.in-Some.is))

pub put_at-requires : goal.put_at-requires
put_at-requires c =
    (omega arith, (c.requires.laid.live, found_within c.args.room.now _ _ c.find_near.ensures c.in-Some.is))

pub join-requires : goal.join-requires
join-requires c =
    let given = found-takes c.args.room.now _ _ c.find_near.ensures c.in-Some.is 3 _ c.put_at.ensures
    c.slot_at-old.ensures c.as_effect.ensures c.requires.can_join in record { stands = given.0; takes = given.1 }

pub returns : goal.returns
returns c =
    found-updated c.args.room.now _ _ c.find_near.ensures c.in-Some.is _ c.args.new
    (found-turned c.args.room.now _ _ c.find_near.ensures c.in-Some.is 3 _ c.put_at.ensures
    c.slot_at-old.ensures c.as_effect.ensures c.requires.laid c.join.ensures)
