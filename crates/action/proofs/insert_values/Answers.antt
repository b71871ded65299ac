-- `action::insert_values` meets its contract: the values are worked out aside as one row, which is then inserted.
use borrow.Author.Rules.{rules}
use Rattle.meaning.specs.ByteLayouts.{value}
use Rattle.fields.specs.Fields.{values_at}
use Rattle.action.proofs.Aside.{aside-worked, running-aside}
use Rattle.action.proofs.Prepared.{acts-insert}
use Rattle.action.proofs.Whole.{not_short}
use Rattle.action.proofs.insert_values.Goals as goal

pub work_out_values-requires-clause-fact : goal.work_out_values-requires-clause-fact
unfolding values_at
work_out_values-requires-clause-fact c = not_short value 4 c.args.s.now c.args.values c.requires.values_len

pub insert_all-requires-clause-running : goal.insert_all-requires-clause-running
insert_all-requires-clause-running c =
    running-aside (aside-worked c.requires.running.represents.laid c.work_out_values.ensures.works)
    (search rules) c.requires.running

pub returns : goal.returns
returns c =
    acts-insert c.args.table c.requires.running.represents.laid c.work_out_values.ensures
    (search rules) c.insert_all.ensures
