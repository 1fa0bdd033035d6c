-- `is_header`: each return by the law of the label that its tests leave.
use mathlib.Core.Path.{sym, ◌∙◌}
use Rattle.index_walk.proofs.GroupLabelLaws.{header-above, header-8410, header-pair, header-other}
use Rattle.index_walk.proofs.is_header.Goals as goal

pub returns-then-label-gt-LABEL_8410 : goal.returns-then-label-gt-LABEL_8410
returns-then-label-gt-LABEL_8410 c = sym (header-above _ c.if-label-gt-LABEL_8410.true)

pub returns-then-label-eq-LABEL_8410 : goal.returns-then-label-eq-LABEL_8410
returns-then-label-eq-LABEL_8410 c = sym (header-8410 _ c.if-label-eq-LABEL_8410.true)

pub returns-then-is_pair : goal.returns-then-is_pair
returns-then-is_pair c = sym (header-pair _ (sym c.is_pair.ensures ∙ c.if-is_pair.true))

pub returns : goal.returns
returns c = sym (header-other _ c.if-label-eq-LABEL_8410.false (sym c.is_pair.ensures ∙ c.if-is_pair.false))
