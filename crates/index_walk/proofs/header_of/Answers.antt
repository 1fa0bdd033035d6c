-- `header_of`: the test of the label decides between the two numbers.
use mathlib.Core.Path.{sym, ◌∙◌}
use Rattle.index_walk.proofs.GroupLabelLaws.{of-member, of_other}
use Rattle.index_walk.proofs.header_of.Goals as goal

pub returns-then-is_member : goal.returns-then-is_member
returns-then-is_member c = sym (of-member _ _ (sym c.is_member.ensures ∙ c.if-is_member.true))

pub returns : goal.returns
returns c = sym (of_other _ _ (sym c.is_member.ensures ∙ c.if-is_member.false))
