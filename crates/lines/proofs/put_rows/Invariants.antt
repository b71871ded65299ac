-- `lines::put_rows` meets its contract. The loop's invariant: what is put, and the lines of the rows that are left, are the lines of all
-- rows.
use Rattle.meaning.specs.ByteLayouts.{row}
use Rattle.meaning.specs.EntryPoints.{row_lines}
use Rattle.words.specs.Words.{readable}
use Rattle.image.specs.Images.{first_row}
use Rattle.lines.proofs.Rows.{Listed}
use Rattle.lines.proofs.put_rows.Given as goal

abbrev pub invariant-loop : goal.invariant-loop
invariant-loop l = Listed l.image l.initial.out l.out l.at l.rows l.here l.counter l.from (row_lines (readable l.rows row l.image first_row))
