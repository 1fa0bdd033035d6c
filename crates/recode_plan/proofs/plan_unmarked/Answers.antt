-- `plan_unmarked` answers what was planned, for each code page.
use mathlib.Core.Path.{sym, ap, ◌∙◌}
use Rattle.recode_plan.specs.RecodePlans.{planned}
use Rattle.recode_plan.proofs.RecodePlanLaws.{plan-437}
use Rattle.recode_plan.proofs.plan_unmarked.Goals as goal

pub returns-in-Page437 : goal.returns-in-Page437
returns-in-Page437 c =
    let a = c.args in
    sym (plan-437 a.set.now a.shape a.room a.wanted c.requires.0 c.in-Page437.is c.requires.1)

pub returns-in-Page1252 : goal.returns-in-Page1252
returns-in-Page1252 c =
    let a = c.args in
    c.plan_gain.ensures ∙ ap (planned a.set.now a.room) (sym c.in-Page1252.is)
