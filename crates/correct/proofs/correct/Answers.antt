-- `correct` answers and leaves what the definition says: by what was planned.
use mathlib.Core.Path.{sym, ap, ◌∙◌}
use lib.Seq.{length-take-le}
use Rattle.meaning.proofs.ResultLaws.{handed-on}
use Rattle.meaning.specs.Refusals.{refused}
use Rattle.correct.proofs.CorrectLaws.{correct-over, kept, plan-refused, plan-made}
use Rattle.correct.proofs.correct.Goals as goal

pub returns-then-room-used : goal.returns-then-room-used
returns-then-room-used c =
    let a = c.args in
    let over = correct-over a.buffer.now a.content.now a.used a.line c.if-room-used.true in
    kept a.buffer.now a.content.now a.used a.line _ (over ∙ ap refused (sym c.at.ensures))

pub slice_bounds-plan_change-end-2 : goal.slice_bounds-plan_change-end-2
slice_bounds-plan_change-end-2 c =
    let a = c.args in
    sym (length-take-le a.used a.buffer.now c.if-room-used.false)

pub put_content-requires : goal.put_content-requires
put_content-requires c =
    let a = c.args in
    let h = c.if-room-used.false in
    let q = sym c.plan_change.ensures ∙ c.in_ok-place.was in
    let m = plan-made a.buffer.now a.content.now a.used a.line _ _ _ h q in
    record { within = (m.within, h); total_room = (m.total-so, m.fits_in, m.sum-in) }

pub returns-in_err-place : goal.returns-in_err-place
returns-in_err-place c =
    let a = c.args in
    let h = c.if-room-used.false in
    let r = kept a.buffer.now a.content.now a.used a.line _
    (plan-refused a.buffer.now a.content.now a.used a.line _ h (sym c.plan_change.ensures ∙ c.in_err-place.was)) in
    (handed-on _ c.from_residual.ensures.1 ∙ r.0, r.1)

pub returns : goal.returns
returns c =
    let a = c.args in
    let h = c.if-room-used.false in
    let q = sym c.plan_change.ensures ∙ c.in_ok-place.was in
    let m = plan-made a.buffer.now a.content.now a.used a.line _ _ _ h q in
    (m.answer, c.put_content.ensures ∙ m.buffer)
