-- `find_6311` is the search of the table: an arm knows the label, the last arm that it is none of the 17.
use mathlib.Core.Path.{refl, sym, ap}
use Rattle.meaning.specs.Tables.{rows6311}
use Rattle.table_find.specs.LookUp.{find_from}
use Rattle.table_find.specs.TableRows.{table_row}
use Rattle.table_find.proofs.FindLaws.{plain_labels, find_none}
use Rattle.table_find.proofs.find_6311.Goals as goal

pub returns-in_default : goal.returns-in_default
unfolding table_row find_from rows6311 plain_labels
returns-in_default c = sym (ap table_row (find_none _ rows6311 _ c.in_default.in_default-own.rest refl refl))
