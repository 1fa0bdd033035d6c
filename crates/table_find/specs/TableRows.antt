-- What a look-up finds as the code answers it: the row's number, its header, whether it repeats, and what its content must be.
-- What an answer says of a label is said by proofs/TableRowLaws.
use Rattle.std.specs.Prelude.{Option, Some, None}
use Rattle.meaning.specs.FieldTable.{field_table, field_row_in}
use Rattle.table_find.specs.declared.TableRow.{TableRow}
use Rattle.table_find.specs.LookUp.{Found, At, NoRow}

unfoldable pub table_row : Found → Option TableRow
table_row NoRow = None
table_row (At i r) = Some (record { number = i; under = r.under; many = r.many; field = field_row_in field_table r.label })
