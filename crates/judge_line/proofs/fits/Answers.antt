-- `fits` asks the length, then whether the kind allows any bytes, and only then reads them.
use mathlib.Core.Path.{sym, ap, ◌∙◌}
use Rattle.judge_line.specs.Steps.{refused_by}
use Rattle.judge_line.proofs.StepLaws.{content-short, content-any, content-fits}
use Rattle.judge_line.proofs.fits.Goals as goal

pub returns-then-not-has_length : goal.returns-then-not-has_length
returns-then-not-has_length c =
    λ q. let p = c.requires in ap refused_by (content-short _ _ _ _ _ p.0 p.1 q (sym c.has_length.ensures ∙ c.if-not-has_length.true))

pub returns-in-Alnum : goal.returns-in-Alnum
returns-in-Alnum c =
    λ q. let p = c.requires in ap refused_by (content-any _ _ _ _ _ p.0 p.1 q (sym c.has_length.ensures ∙ c.if-not-has_length.false) c.in-Alnum.is)

pub returns-in_default : goal.returns-in_default
returns-in_default c =
    λ q. let p = c.requires in c.fits_kind.ensures
    ∙ ap refused_by (content-fits _ _ _ _ _ p.0 p.1 q (sym c.has_length.ensures ∙ c.if-not-has_length.false))
