-- `view`: nothing of a set that is refused; else the part that `shown_alone` names, which lies within its slice.
use mathlib.Core.Path.{sym, ap, ◌∙◌, subst}
use Rattle.meaning.specs.Views.{shown_bytes, view}
use Rattle.view_part.specs.Parts.{Within}
use Rattle.view.proofs.AloneLaws.{viewed-refused, viewed-accepted, alone-within}
use Rattle.view.proofs.view.Goals as goal
use Rattle.meaning.specs.Results.{Viewed}

pub shown_alone-requires : goal.shown_alone-requires
shown_alone-requires c =
    sym c.judge.ensures ∙ c.in-Ok.is

pub shown_bytes-requires : goal.shown_bytes-requires
shown_bytes-requires c =
    let a = c.args in
    subst (λ (v : Viewed). Within a.set.now a.sheet.now v) (sym c.shown_alone.ensures)
    (alone-within a.set.now _ a.sheet.now a.line (sym c.judge.ensures ∙ c.in-Ok.is))

pub returns-in-Err : goal.returns-in-Err
unfolding view
returns-in-Err c =
    let a = c.args in
    ap (λ (v : Viewed). shown_bytes a.set.now a.sheet.now v) (viewed-refused a.set.now a.sheet.now a.line _ (sym c.judge.ensures ∙ c.in-Err.is))

pub returns-in-Ok : goal.returns-in-Ok
unfolding view
returns-in-Ok c =
    let a = c.args in
    let shown = viewed-accepted a.set.now a.sheet.now a.line _ (sym c.judge.ensures ∙ c.in-Ok.is) in
    c.shown_bytes.ensures ∙ ap (λ (v : Viewed). shown_bytes a.set.now a.sheet.now v) (c.shown_alone.ensures ∙ shown)
