-- `is_pair` is `is_pair_label`: the same two comparisons.
use borrow.Author.Tests.{le-leb, lt-leb}
use Rattle.table_fields.proofs.is_pair.Goals as goal

pub returns-then-label-lt-LABEL_6330 : goal.returns-then-label-lt-LABEL_6330
returns-then-label-lt-LABEL_6330 c = search (le-leb, lt-leb)

pub returns : goal.returns
returns c = search (le-leb, lt-leb)
