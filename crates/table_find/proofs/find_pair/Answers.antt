-- `find_pair`: a name has the row of 6330, an odd label that of 6331, any other label none of the two.
use mathlib.Core.Path.{sym, ◌∙◌}
use Rattle.meaning.specs.Tables.{rows6310}
use Rattle.meaning.specs.FieldTable.{field_table, field_row_in}
use Rattle.table_fields.specs.LabelNumbers.{label_number, rows_before}
use Rattle.table_find.specs.LookUp.{find_from}
use Rattle.table_find.specs.TableRows.{table_row}
use Rattle.table_find.proofs.FindLaws.{row-even, row-odd}
use Rattle.table_find.proofs.find_pair.Goals as goal

pub returns-then-label-eq0 : goal.returns-then-label-eq0
unfolding table_row find_from label_number rows_before rows6310 field_row_in field_table
returns-then-label-eq0 c =
    let p = sym c.is_pair.ensures ∙ c.if-is_pair.true in
    rw (p, row-even _ p c.if-label-eq0.true) c.at.ensures

pub returns-then-is_pair : goal.returns-then-is_pair
unfolding table_row find_from label_number rows_before rows6310 field_row_in field_table
returns-then-is_pair c =
    let p = sym c.is_pair.ensures ∙ c.if-is_pair.true in
    rw (p, row-odd _ p c.if-label-eq0.false) c.at-then-is_pair.ensures

pub returns : goal.returns
returns c = rw (sym c.is_pair.ensures ∙ c.if-is_pair.false)
