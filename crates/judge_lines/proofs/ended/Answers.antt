-- `ended`: 16, then 24.
use mathlib.Core.Path.{refl, ap, ◌∙◌}
use Rattle.meaning.specs.Answers.{no_refusal}
use Rattle.judge_missing.proofs.FinishLaws.{lacks-first, then-high}
use Rattle.judge_lines.specs.Pass.{answered}
use Rattle.judge_lines.proofs.LineLoopLaws.{answered-bad}
use Rattle.judge_lines.proofs.ended.Goals as goal

pub returns-in-Some : goal.returns-in-Some
returns-in-Some c =
    let e = c.in-Some.ensures in
    answered-bad _ e.numbered ∙ ap answered (lacks-first _ _ _ _ _ e.lack_so e.numbered)

pub returns : goal.returns
returns c =
    c.unless_high.ensures ∙ ap answered (then-high _ _ _ no_refusal _ c.in_default.ensures.lack_so refl)
