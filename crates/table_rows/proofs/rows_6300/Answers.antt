-- `rows_6300` answers the table, row by row.
use mathlib.Core.Path.{refl}
use Rattle.meaning.specs.Tables.{rows6300}
use Rattle.table_rows.proofs.rows_6300.Goals as goal

pub returns : goal.returns
unfolding rows6300
returns c = refl
