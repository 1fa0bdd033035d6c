-- `rows_6311` answers the table, row by row.
use mathlib.Core.Path.{refl}
use Rattle.meaning.specs.Tables.{rows6311}
use Rattle.table_rows.proofs.rows_6311.Goals as goal

pub returns : goal.returns
unfolding rows6311
returns c = refl
