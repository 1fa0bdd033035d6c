-- `labelled_line` is the walk `labelled_line`.
use mathlib.Core.Path.{◌∙◌}
use Rattle.line_read.specs.Line.{must, labelled_line}
use Rattle.line_read.proofs.LineWalkLaws.{tests}
use Rattle.line_read.proofs.labelled_line.Goals as goal

pub returns-then-low-content : goal.returns-then-low-content
unfolding must labelled_line
returns-then-low-content c = c.refused.ensures ∙ search (tests, ← c.seek_low-low.ensures)

pub returns : goal.returns
unfolding must labelled_line
returns c = search (tests, ← c.seek_low-low.ensures)
