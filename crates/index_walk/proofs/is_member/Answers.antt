-- `is_member`: each return by the law of the label that its tests leave.
use mathlib.Core.Path.{sym, ◌∙◌}
use Rattle.index_walk.proofs.GroupLabelLaws.{member-above, member-pair, member-low, member-other}
use Rattle.index_walk.proofs.is_member.Goals as goal

pub returns-then-label-gt-LABEL_8410 : goal.returns-then-label-gt-LABEL_8410
returns-then-label-gt-LABEL_8410 c = sym (member-above _ c.if-label-gt-LABEL_8410.true)

pub returns-then-is_pair : goal.returns-then-is_pair
returns-then-is_pair c = sym (member-pair _ (sym c.is_pair.ensures ∙ c.if-is_pair.true))

pub returns-then-label-lt-LABEL_6303 : goal.returns-then-label-lt-LABEL_6303
returns-then-label-lt-LABEL_6303 c = sym (member-low _ c.if-label-lt-LABEL_6303.true (sym c.is_pair.ensures ∙ c.if-is_pair.false))

pub returns : goal.returns
returns c =
    sym (member-other _ c.if-label-gt-LABEL_8410.false c.if-label-lt-LABEL_6303.false (sym c.is_pair.ensures ∙ c.if-is_pair.false))
