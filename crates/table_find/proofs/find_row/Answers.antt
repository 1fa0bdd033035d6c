-- `find_row` searches the table of the set type.
use Rattle.meaning.specs.Tables.{table}
use Rattle.table_find.proofs.find_row.Goals as goal

pub returns-in-T6300 : goal.returns-in-T6300
unfolding table
returns-in-T6300 c = rw c.in-T6300.is c.find_6300.ensures

pub returns-in-T6301 : goal.returns-in-T6301
unfolding table
returns-in-T6301 c = rw c.in-T6301.is c.find_6301.ensures

pub returns-in-T6302 : goal.returns-in-T6302
unfolding table
returns-in-T6302 c = rw c.in-T6302.is c.find_6302.ensures

pub returns-in-T6310 : goal.returns-in-T6310
unfolding table
returns-in-T6310 c = rw c.in-T6310.is c.find_6310.ensures

pub returns-in-T6311 : goal.returns-in-T6311
unfolding table
returns-in-T6311 c = rw c.in-T6311.is c.find_6311.ensures
