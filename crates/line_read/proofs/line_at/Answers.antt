-- `line_at` is the walk `line_at`.
use mathlib.Core.Path.{sym, ◌∙◌}
use native.Mathlib.Omega.{arith}
use Rattle.line_read.specs.Line.{must_read, line_at}
use Rattle.line_read.proofs.LineWalkLaws.{number-within}
use Rattle.line_read.proofs.line_at.Goals as goal

pub sized_line-requires : goal.sized_line-requires
sized_line-requires c =
    omega (arith, number-within _ _ _ (sym c.number_at.ensures ∙ c.in-Some.is))

pub returns-in-Some : goal.returns-in-Some
unfolding must_read line_at
returns-in-Some c =
    c.sized_line.ensures ∙ search (← c.number_at.ensures, c.in-Some.is)

pub returns-in-None : goal.returns-in-None
unfolding must_read line_at
returns-in-None c =
    c.refused.ensures ∙ search (← c.number_at.ensures, c.in-None.is)
