-- `last_after`: the test of the label decides between the two numbers.
use mathlib.Core.Path.{sym, ◌∙◌}
use Rattle.index_walk.proofs.GroupLabelLaws.{last-header, last-other}
use Rattle.index_walk.proofs.last_after.Goals as goal

pub returns-then-is_header : goal.returns-then-is_header
returns-then-is_header c = sym (last-header _ _ _ (sym c.is_header.ensures ∙ c.if-is_header.true))

pub returns : goal.returns
returns c = sym (last-other _ _ _ (sym c.is_header.ensures ∙ c.if-is_header.false))
