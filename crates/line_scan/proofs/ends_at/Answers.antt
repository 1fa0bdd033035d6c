-- `ends_at` is the walk `ends_at`, test by test.
use mathlib.Core.Path.{◌∙◌}
use Rattle.line_read.proofs.LineWalkLaws.{tests}
use Rattle.line_scan.specs.Scan.{ends_at}
use Rattle.line_scan.proofs.ends_at.Goals as goal

pub returns-then-s-at : goal.returns-then-s-at
unfolding ends_at
returns-then-s-at c = search tests

pub returns-then-s-at-lt-LINE_LEAD : goal.returns-then-s-at-lt-LINE_LEAD
unfolding ends_at
returns-then-s-at-lt-LINE_LEAD c = search tests

pub returns : goal.returns
unfolding ends_at
returns c = c.reads_8000.ensures ∙ search tests
