-- `plan_judged` answers what was planned: a law of proofs/PlanLaws for each `return`.
use mathlib.Core.Path.{sym, ap, ◌∙◌}
use Rattle.meaning.proofs.ResultLaws.{handed-on}
use Rattle.correct_plan.proofs.PlanLaws.{plan-followed, plan-against, plan-ready}
use Rattle.correct_plan.proofs.plan_judged.Goals as goal
use Rattle.std.specs.Prelude.{Err}

pub returns-then-set : goal.returns-then-set
returns-then-set c =
    let a = c.args in
    ap Err c.at.ensures ∙ sym (plan-followed a.set.bytes.now a.content.now a.room a.line a.set.shape a.set.accepted c.if-set.true)

pub overflow_sub-old : goal.overflow_sub-old
overflow_sub-old c =
    let a = c.args in
    let r = plan-ready a.set.bytes.now a.content.now a.room a.line a.set.shape a.set.accepted c.in_ok-found.found c.if-set.false (sym c.in_ok-found.was ∙ c.judge_change.ensures) in
    r.least

pub overflow_sub-total : goal.overflow_sub-total
overflow_sub-total c =
    let a = c.args in
    let r = plan-ready a.set.bytes.now a.content.now a.room a.line a.set.shape a.set.accepted c.in_ok-found.found c.if-set.false (sym c.in_ok-found.was ∙ c.judge_change.ensures) in
    r.within

pub returns : goal.returns
returns c =
    let a = c.args in
    let r = plan-ready a.set.bytes.now a.content.now a.room a.line a.set.shape a.set.accepted c.in_ok-found.found c.if-set.false (sym c.in_ok-found.was ∙ c.judge_change.ensures) in
    c.plan_total.ensures ∙ sym r.plan

pub returns-in_err-found : goal.returns-in_err-found
returns-in_err-found c =
    let a = c.args in
    handed-on _ c.from_residual.ensures.1
    ∙ sym (plan-against a.set.bytes.now a.content.now a.room a.line a.set.shape a.set.accepted _ c.if-set.false (sym c.in_err-found.was ∙ c.judge_change.ensures))
