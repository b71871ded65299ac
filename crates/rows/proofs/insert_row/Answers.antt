-- `rows::insert_row` meets its contract: the row with the next handle is pushed, the next handle rises, and the insert joins what was
-- done since the last joining.
use native.Mathlib.Omega.{arith}
use Rattle.slots.proofs.Frames.{word-put}
use Rattle.slots.proofs.Tables.{table-length}
use Rattle.room.specs.Room.{LIVE}
use Rattle.rows.proofs.Turning.{insert-takes, insert-turned}
use Rattle.rows.proofs.insert_row.Goals as goal

pub push-requires : goal.push-requires
push-requires c =
    (omega arith, (c.requires.joinable.laid.live, (omega (arith, c.requires.room_len_bound, table-length c.args.room.now LIVE), omega arith)))

pub join-requires : goal.join-requires
join-requires c =
    let given = insert-takes _ _ _ c.next-handle.ensures c.row_of-new.ensures c.push.ensures
    (word-put _ _ (omega (arith, c.next-handle.ensures)) (omega arith) c.put_low32.ensures) c.as_effect.ensures c.requires.joinable in record { stands = given.0; takes = given.1 }

pub returns : goal.returns
returns c =
    insert-turned _ _ _ c.next-handle.ensures c.row_of-new.ensures c.push.ensures
    (word-put _ _ (omega (arith, c.next-handle.ensures)) (omega arith) c.put_low32.ensures) c.as_effect.ensures
    c.requires.joinable c.join.ensures
