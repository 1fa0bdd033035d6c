-- `field_row` is the row of the label that the row is printed under.
use Rattle.meaning.specs.FieldTable.{field_row}
use Rattle.table_fields.proofs.field_row.Goals as goal

pub returns : goal.returns
unfolding field_row
returns c = rw (← c.row_label.ensures) c.printed_row.ensures
