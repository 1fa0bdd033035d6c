-- `sized_line` is the walk `sized_line`, rule by rule.
use mathlib.Core.Path.{sym, ◌∙◌}
use native.Mathlib.Omega.{arith}
use Rattle.line_read.specs.Line.{must, must_read, sized_line}
use Rattle.line_read.proofs.LineWalkLaws.{tests, line-short}
use Rattle.line_read.proofs.sized_line.Goals as goal

pub returns-then-size-lt-MIN_LINE_BYTES : goal.returns-then-size-lt-MIN_LINE_BYTES
returns-then-size-lt-MIN_LINE_BYTES c = c.refused.ensures ∙ sym (line-short _ _ _ (omega arith))

pub returns-then-s-at : goal.returns-then-s-at
unfolding must must_read sized_line
returns-then-s-at c = c.refused-then-s-at.ensures ∙ search tests

pub returns-then-not-line_ends : goal.returns-then-not-line_ends
unfolding must must_read sized_line
returns-then-not-line_ends c = c.refused-then-not-line_ends.ensures ∙ search (tests, ← c.line_ends.ensures, c.if-not-line_ends.true)

pub returns-in-Some : goal.returns-in-Some
unfolding must must_read sized_line
returns-in-Some c =
    search (tests, ← c.line_ends.ensures, c.if-not-line_ends.false, ← c.number_at.ensures, c.in-Some.is)

pub returns-in-None : goal.returns-in-None
unfolding must must_read sized_line
returns-in-None c =
    c.refused-in-None.ensures ∙ search (tests, ← c.line_ends.ensures, c.if-not-line_ends.false, ← c.number_at.ensures, c.in-None.is)
