-- `table_into`: each table is that of the definition, entry by entry.
use mathlib.Core.Path.{refl}
use Rattle.meaning_recode.specs.Codes.{table_into, to437, to1252}
use Rattle.recode_table.proofs.table_into.Goals as goal

pub returns-in-Page437 : goal.returns-in-Page437
unfolding table_into to437 to1252
returns-in-Page437 c = rw c.in-Page437.is refl

pub returns-in-Page1252 : goal.returns-in-Page1252
unfolding table_into to437 to1252
returns-in-Page1252 c = rw c.in-Page1252.is refl
