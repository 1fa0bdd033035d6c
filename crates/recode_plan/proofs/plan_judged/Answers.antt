-- `plan_judged` answers what was planned: 18, then by whether a line is 9206.
use mathlib.Core.Path.{sym, ◌∙◌}
use Rattle.recode_plan.proofs.RecodePlanLaws.{plan-followed}
use Rattle.recode_plan.proofs.plan_judged.Goals as goal

pub returns-then-set : goal.returns-then-set
returns-then-set c =
    let a = c.args in
    c.refused_plan.ensures ∙ sym (plan-followed a.set.bytes.now a.set.shape a.room a.wanted a.set.accepted c.if-set.true)

pub plan_unmarked-requires : goal.plan_unmarked-requires
plan_unmarked-requires c =
    (record { accepted-so = c.args.set.accepted; alone = c.if-set.false; in-room = c.requires }, sym c.first_place-place.ensures.0 ∙ c.if-place-eq0.true)

pub plan_marked-requires : goal.plan_marked-requires
plan_marked-requires c =
    (record { accepted-so = c.args.set.accepted; alone = c.if-set.false; in-room = c.requires }, c.first_place-place.ensures.0, c.if-place-eq0.false)
