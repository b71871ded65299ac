-- `lines::put_row` meets its contract: its parts, one after another, are the line of the row.
use borrow.Author.Rules.{rules}
use native.Mathlib.Omega.{arith}
use Rattle.meaning.specs.Values.{signed}
use Rattle.lines.proofs.Rows.{puts-row}
use Rattle.lines.proofs.put_row.Goals as goal

pub returns : goal.returns
unfolding signed
returns c =
    puts-row c.args.r (omega arith) c.requires.table_bound c.put_number-handle.ensures c.put_numbers-table.ensures
    c.put_numbers-values.ensures c.put_bytes.ensures (omega arith) (search rules) (search rules) (search rules) (search rules)
