-- `step_at`: each return by the law of the line that leads to it.
use mathlib.Core.Path.{sym, ◌∙◌}
use Rattle.std.proofs.lemmas.Result.{err_from_is_err_and}
use Rattle.table_find.proofs.TableRowLaws.{none-answered, answered}
use Rattle.judge_line.proofs.StepLaws.{step-unknown, step-misplaced, step-unfit, step-opened, member-pair, step-joined}
use Rattle.judge_line.proofs.step_at.Goals as goal

pub returns-in_default-clause-step : goal.returns-in_default-clause-step
returns-in_default-clause-step c = step-unknown (none-answered _ _ (sym c.in_default.is ∙ c.find_row.ensures))

pub placed-requires : goal.placed-requires
placed-requires c = (answered _ _ _ c.in-Some.ensures).below

pub returns-in_err-placed-clause-step : goal.returns-in_err-placed-clause-step
returns-in_err-placed-clause-step c =
    let h = answered _ _ _ c.in-Some.ensures in
    let p = err_from_is_err_and c.from_residual.result c.from_residual.ensures.1 in
    rw (p.1, p.2) (step-misplaced _ _ h.is (c.in_err-placed.ensures h.row h.under-so h.many-so))

pub returns-in_err-fits-clause-step : goal.returns-in_err-fits-clause-step
returns-in_err-fits-clause-step c =
    let h = answered _ _ _ c.in-Some.ensures in
    let p = err_from_is_err_and c.from_residual-in_err-fits.result c.from_residual-in_err-fits.ensures.1 in
    rw (p.1, p.2) (step-unfit _ _ h.is (c.in_ok-placed.ensures h.row h.under-so h.many-so) (c.in_err-fits.ensures h.field-so))

pub opened-requires : goal.opened-requires
opened-requires c = (answered _ _ _ c.in-Some.ensures).below

pub returns-then-row-eq-SET_LEVEL-clause-step : goal.returns-then-row-eq-SET_LEVEL-clause-step
returns-then-row-eq-SET_LEVEL-clause-step c =
    let h = answered _ _ _ c.in-Some.ensures in
    step-opened _ _ h.is (c.in_ok-placed.ensures h.row h.under-so h.many-so) (c.in_ok-fits.ensures h.field-so)
    (h.under-so ∙ c.if-row-eq-SET_LEVEL.true) c.opened.ensures.next

pub joined-requires : goal.joined-requires
joined-requires c = (answered _ _ _ c.in-Some.ensures).below

pub returns-clause-step : goal.returns-clause-step
returns-clause-step c =
    let h = answered _ _ _ c.in-Some.ensures in
    step-joined _ _ h.is (c.in_ok-placed.ensures h.row h.under-so h.many-so) (c.in_ok-fits.ensures h.field-so)
    h.under-so c.if-row-eq-SET_LEVEL.false (member-pair h c.if-row-eq-SET_LEVEL.false) c.joined.ensures
