-- `sum_of` is the walk `sum_written`: the line has the length of one with five digits, or not.
use mathlib.Core.Path.{◌∙◌}
use Rattle.judge_start.proofs.TypeAndSumLaws.{sum-short, sum-read}
use Rattle.judge_start.proofs.sum_of.Goals as goal

pub returns-then-size-ne-SUM_LINE : goal.returns-then-size-ne-SUM_LINE
returns-then-size-ne-SUM_LINE c = sum-short _ _ _ c.if-size-ne-SUM_LINE.true

pub returns : goal.returns
returns c = c.number_at.ensures ∙ sum-read _ _ _ c.if-size-ne-SUM_LINE.false
