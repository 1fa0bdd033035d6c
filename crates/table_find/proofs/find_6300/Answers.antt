-- `find_6300` is the search of the table: an arm knows the label, the last arm that it is none of the 7.
use mathlib.Core.Path.{refl, sym, ap}
use Rattle.meaning.specs.Tables.{rows6300}
use Rattle.table_find.specs.LookUp.{find_from}
use Rattle.table_find.specs.TableRows.{table_row}
use Rattle.table_find.proofs.FindLaws.{plain_labels, find_none}
use Rattle.table_find.proofs.find_6300.Goals as goal

pub returns-in_default : goal.returns-in_default
unfolding table_row find_from rows6300 plain_labels
returns-in_default c = sym (ap table_row (find_none _ rows6300 _ c.in_default.in_default-own.rest refl refl))
