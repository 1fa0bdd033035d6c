-- `lack_under`: of a 6302 header the three labels are asked in their order.
use Rattle.meaning.specs.FieldTable.{field_table}
use Rattle.meaning.specs.Tables.{row_label}
use Rattle.table_fields.specs.LabelNumbers.{label_number, rows_before}
use Rattle.judge_missing.specs.Lacks.{seen, lack_under, lack6302, lack_by}
use Rattle.judge_missing.proofs.lack_under.Goals as goal

pub returns-then-header-eq-LABEL_6302 : goal.returns-then-header-eq-LABEL_6302
unfolding lack_under lack6302 lack_by seen row_label label_number rows_before field_table
returns-then-header-eq-LABEL_6302 c = rw c.if-header-eq-LABEL_6302.true c.first_unseen.ensures
