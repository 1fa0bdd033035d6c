-- `row_label` is the label of the row: that of the names or of the odd labels, or the label itself.
use mathlib.Core.Path.{sym, ◌∙◌}
use Rattle.meaning.specs.Tables.{row_label}
use Rattle.table_fields.proofs.row_label.Goals as goal

pub returns-then-is_pair : goal.returns-then-is_pair
unfolding row_label
returns-then-is_pair c = rw (sym c.is_pair.ensures ∙ c.if-is_pair.true)

pub returns : goal.returns
unfolding row_label
returns c = rw (sym c.is_pair.ensures ∙ c.if-is_pair.false)
