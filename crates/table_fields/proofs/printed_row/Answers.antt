-- `printed_row` is the row that the search of the field table answers: an arm knows the label, the last arm that it is none of the 57.
use mathlib.Core.Path.{sym}
use Rattle.meaning.specs.FieldTable.{field_table}
use Rattle.table_fields.proofs.FieldRowLaws.{field-none}
use Rattle.table_fields.proofs.printed_row.Goals as goal

pub returns-in_default : goal.returns-in_default
unfolding field_table
returns-in_default c = sym (field-none _ field_table _ c.in_default.in_default-own.rest)
