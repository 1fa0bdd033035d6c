-- `rows_6310` answers the table, row by row.
use mathlib.Core.Path.{refl}
use Rattle.meaning.specs.Tables.{rows6310}
use Rattle.table_rows.proofs.rows_6310.Goals as goal

pub returns : goal.returns
unfolding rows6310
returns c = refl
