-- `plan_change` answers what was planned.
use mathlib.Core.Path.{sym, ◌∙◌}
use Rattle.meaning.proofs.ResultLaws.{handed-on}
use Rattle.correct.proofs.CorrectLaws.{plan-unread}
use Rattle.correct.proofs.plan_change.Goals as goal

pub invariant_of-accepted : goal.invariant_of-accepted
invariant_of-accepted c =
    record { accepted = sym c.judge.ensures ∙ c.in_ok-shape.was }

pub returns-in_err-shape : goal.returns-in_err-shape
returns-in_err-shape c =
    let a = c.args in
    handed-on _ c.from_residual.ensures.1 ∙ (sym (plan-unread a.set.now a.content.now a.room a.line _ (sym c.judge.ensures ∙ c.in_err-shape.was)))
