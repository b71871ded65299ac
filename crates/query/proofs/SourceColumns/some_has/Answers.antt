-- `query::SourceColumns::some_has` meets its contract: the places after the last row have the first row, so that 64 places say the same as
-- the rows.
use mathlib.Core.Path.{◌∙◌}
use Rattle.query.proofs.Columns.{some-padded}
use Rattle.query.proofs.SourceColumns.some_has.Goals as goal

pub returns : goal.returns
returns c =
    let t = c.args.self.now in
    c.some_of_64.ensures ∙ some-padded _ _ _ _ _ _ t.few.0 t.few.1 t.padded.0 t.padded.1 t.padded.2 t.padded.3
