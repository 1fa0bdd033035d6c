-- `viewed`: the walk after `judge`, which shows what the definition says (AloneLaws).
use mathlib.Core.Path.{sym, ◌∙◌}
use Rattle.meaning.proofs.ResultLaws.{handed-on}
use Rattle.view.proofs.AloneLaws.{viewed-refused, viewed-accepted}
use Rattle.view.proofs.viewed.Goals as goal

pub shown_alone-requires : goal.shown_alone-requires
shown_alone-requires c =
    sym c.judge.ensures ∙ c.in_ok-shape.was

pub returns-in_err-shape : goal.returns-in_err-shape
returns-in_err-shape c =
    handed-on _ c.from_residual.ensures.1 ∙ (viewed-refused _ _ _ _ (sym c.judge.ensures ∙ c.in_err-shape.was))

pub returns : goal.returns
returns c =
    c.shown_alone.ensures ∙ viewed-accepted _ _ _ _ (sym c.judge.ensures ∙ c.in_ok-shape.was)
