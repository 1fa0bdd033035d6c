use mathlib.Core.Path.{sym, ◌∙◌}
use native.Mathlib.Omega.{arith}
use borrow.Author.Tests.{leb-true, leb-false}
use Rattle.line_find.proofs.FirstPlaceLaws.{place_none, place-cut, place_here, place-next}
use Rattle.line_find.proofs.first_place.Goals as goal

pub returns-then-not-has_lead : goal.returns-then-not-has_lead
returns-then-not-has_lead c =
    let a = c.args in
    let l = c.loop in
    (place-cut a.label a.set.now l.at l.counter (omega arith) (leb-false _ _ (sym c.has_lead.ensures ∙ c.if-not-has_lead.true)) ∙ l.invariant, omega arith)

pub returns-then-label_stands : goal.returns-then-label_stands
returns-then-label_stands c =
    let a = c.args in
    let l = c.loop in
    let h = leb-true _ _ (sym c.has_lead.ensures ∙ c.if-not-has_lead.false) in
    (place_here a.label a.set.now l.at l.counter (omega arith) h (sym c.label_stands.ensures ∙ c.if-label_stands.true) ∙ l.invariant, omega (arith, h))

pub loop-preserved : goal.loop-preserved
loop-preserved c =
    let a = c.args in
    let l = c.loop in
    place-next a.label a.set.now l.at l.counter (omega arith) (leb-true _ _ (sym c.has_lead.ensures ∙ c.if-not-has_lead.false))
    (sym c.label_stands.ensures ∙ c.if-label_stands.false) _ c.told_length.ensures.0
    ∙ l.invariant

pub returns : goal.returns
returns c =
    let a = c.args in
    let l = c.loop in
    (place_none a.label a.set.now l.at l.counter (omega arith) ∙ l.invariant, omega arith)
