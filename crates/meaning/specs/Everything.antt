-- `unfolding everything` unfolds the whole specification: what a case computes with, and a law whose proof is a computation.
use Rattle.std.specs.Int.Count.{ones}
use Rattle.meaning.specs.Values
use Rattle.meaning.specs.Reading
use Rattle.meaning.specs.ByteLayouts
use Rattle.meaning.specs.EntryPoints
use Rattle.meaning.specs.RowOperations
use Rattle.meaning.specs.Processing
use Rattle.meaning.specs.Processing.TotalOrder
use Rattle.meaning.specs.Processing.TransitionTables
use Rattle.meaning.specs.Processing.Queries
use Rattle.meaning.specs.Processing.Actions

unfoldable pub everything : Unit {0}
unfolding ones Values.signed Values.unsigned Values.agree Values.compare Values.in_range Values.plus Reading.byte_within Reading.byte Reading.number16 Reading.number32 Reading.many Reading.bytes_left Reading.read_all ByteLayouts.framed ByteLayouts.value ByteLayouts.table ByteLayouts.column ByteLayouts.mask ByteLayouts.row ByteLayouts.rising ByteLayouts.image ByteLayouts.comparison ByteLayouts.constant ByteLayouts.of_column ByteLayouts.sum ByteLayouts.expression_of ByteLayouts.expression ByteLayouts.pair ByteLayouts.source_of ByteLayouts.source ByteLayouts.against_constant ByteLayouts.against_column ByteLayouts.matching ByteLayouts.term_of ByteLayouts.term ByteLayouts.terms ByteLayouts.query ByteLayouts.insert_row ByteLayouts.insert_from_query ByteLayouts.delete_rows ByteLayouts.update_rows ByteLayouts.action_of ByteLayouts.action ByteLayouts.some_query ByteLayouts.condition ByteLayouts.actions ByteLayouts.columns ByteLayouts.rule ByteLayouts.book ByteLayouts.insertion ByteLayouts.deletion ByteLayouts.change ByteLayouts.operation_of ByteLayouts.operation ByteLayouts.log ByteLayouts.bytes2 ByteLayouts.bytes4 ByteLayouts.value_bytes ByteLayouts.row_bytes ByteLayouts.rows_bytes ByteLayouts.image_bytes EntryPoints.refusal_number EntryPoints.outcome_number EntryPoints.failure_number EntryPoints.reason_number EntryPoints.judge_book EntryPoints.with_book EntryPoints.verdict EntryPoints.handed_back EntryPoints.answer_of EntryPoints.count_of EntryPoints.written EntryPoints.cleared EntryPoints.result_of EntryPoints.run EntryPoints.checked EntryPoints.check_book EntryPoints.bytes_read EntryPoints.rule_after EntryPoints.rule_in EntryPoints.rule_bytes EntryPoints.part_end EntryPoints.first_part EntryPoints.verdict_on EntryPoints.digits EntryPoints.decimal EntryPoints.signed_decimal EntryPoints.spaced EntryPoints.line EntryPoints.row_lines EntryPoints.run_lines EntryPoints.refusal_line EntryPoints.lines EntryPoints.printed RowOperations.handle_of RowOperations.row_at RowOperations.without RowOperations.with_row RowOperations.make RowOperations.make_all RowOperations.kind RowOperations.join_table RowOperations.join_kind RowOperations.over RowOperations.joined_as RowOperations.join RowOperations.effect_of RowOperations.single RowOperations.joined_on RowOperations.net RowOperations.place RowOperations.named_on RowOperations.named RowOperations.entry RowOperations.entries RowOperations.net_effect RowOperations.effect_at Processing.ended Processing.after_events Processing.since Processing.waits Processing.run_log Processing.condition_holds Processing.run_actions Processing.consider_with Processing.consider_rule Processing.triggered Processing.consider Processing.moved Processing.consideration Processing.first_triggered Processing.steps Processing.after_log Processing.process TotalOrder.numbers TotalOrder.precedes_rule TotalOrder.ready TotalOrder.take_from TotalOrder.order_of TotalOrder.total_order TransitionTables.own_table TransitionTables.meets TransitionTables.wakes TransitionTables.own_row TransitionTables.deleted_row TransitionTables.old_row TransitionTables.live_row TransitionTables.inserted_row TransitionTables.new_row TransitionTables.transition Queries.cell Queries.agree_on Queries.source_rows Queries.holds Queries.all_hold Queries.chosen Queries.work_out Queries.work_out_all Actions.onward Actions.following Actions.and_then Actions.fails Actions.new_rows Actions.insert_all Actions.delete_all Actions.masked Actions.updated_row Actions.updates_of Actions.update_all Actions.operate Actions.rows_of Actions.perform
everything = tt
