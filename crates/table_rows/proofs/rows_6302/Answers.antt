-- `rows_6302` answers the table, row by row.
use mathlib.Core.Path.{refl}
use Rattle.meaning.specs.Tables.{rows6302}
use Rattle.table_rows.proofs.rows_6302.Goals as goal

pub returns : goal.returns
unfolding rows6302
returns c = refl
