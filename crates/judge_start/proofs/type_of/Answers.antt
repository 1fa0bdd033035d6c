-- `type_of`: by what its four bytes write.
use mathlib.Core.Path.{sym, ◌∙◌}
use Rattle.judge_start.proofs.TypeAndSumLaws.{type-other, type-known, type-none}
use Rattle.judge_start.proofs.type_of.Goals as goal

pub returns-then-content-ne-TYPE_DIGITS : goal.returns-then-content-ne-TYPE_DIGITS
returns-then-content-ne-TYPE_DIGITS c = type-other _ c.if-content-ne-TYPE_DIGITS.true

pub returns-in-Some : goal.returns-in-Some
returns-in-Some c =
    c.of.ensures ∙ type-known _ c.if-content-ne-TYPE_DIGITS.false _ (sym c.number_at.ensures ∙ c.in-Some.is)

pub returns-in-None : goal.returns-in-None
returns-in-None c =
    type-none _ c.if-content-ne-TYPE_DIGITS.false (sym c.number_at.ensures ∙ c.in-None.is)
