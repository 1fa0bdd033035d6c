-- `find_6302` is the search of the table: an arm knows the label, the last arm that it is none of the 25.
use mathlib.Core.Path.{refl, sym, ap}
use Rattle.meaning.specs.Tables.{rows6302}
use Rattle.table_find.specs.LookUp.{find_from}
use Rattle.table_find.specs.TableRows.{table_row}
use Rattle.table_find.proofs.FindLaws.{plain_labels, find_none}
use Rattle.table_find.proofs.find_6302.Goals as goal

pub returns-in_default : goal.returns-in_default
unfolding table_row find_from rows6302 plain_labels
returns-in_default c = sym (ap table_row (find_none _ rows6302 _ c.in_default.in_default-own.rest refl refl))
