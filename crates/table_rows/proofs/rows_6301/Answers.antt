-- `rows_6301` answers the table, row by row.
use mathlib.Core.Path.{refl}
use Rattle.meaning.specs.Tables.{rows6301}
use Rattle.table_rows.proofs.rows_6301.Goals as goal

pub returns : goal.returns
unfolding rows6301
returns c = refl
