-- `find_6310` is the search of the table: an arm knows the label, the last arm that it is none of the 55.
use mathlib.Core.Path.{sym, ◌∙◌}
use Rattle.meaning.specs.Tables.{rows6310}
use Rattle.table_find.proofs.FindLaws.{plain_labels, find-pairs}
use Rattle.table_find.proofs.find_6310.Goals as goal

pub returns-in_default : goal.returns-in_default
unfolding rows6310 plain_labels
returns-in_default c = c.find_pair.ensures ∙ sym (find-pairs _ rows6310 _ c.in_default.in_default-own.rest)
