-- `judge_content`: each return by the law of the test that decides.
use mathlib.Core.Path.{sym, ◌∙◌}
use Rattle.correct_offer.proofs.OfferWalkLaws.{to-fixed, to_low, to-bad, to_high, to-good}
use Rattle.correct_offer.proofs.judge_content.Goals as goal

pub returns-then-is_fixed : goal.returns-then-is_fixed
returns-then-is_fixed c = to-fixed _ _ _ (sym c.is_fixed.ensures ∙ c.if-is_fixed.true)

pub returns-then-first_low-content : goal.returns-then-first_low-content
returns-then-first_low-content c =
    let f = sym c.is_fixed.ensures ∙ c.if-is_fixed.false in
    to_low _ _ _ f _ c.first_low.ensures c.if-first_low-content.true

pub returns-then-not-fits_label : goal.returns-then-not-fits_label
returns-then-not-fits_label c =
    let f = sym c.is_fixed.ensures ∙ c.if-is_fixed.false in
    let g = sym c.fits_label.ensures ∙ c.if-not-fits_label.true in
    to-bad _ _ _ f _ c.first_low.ensures c.if-first_low-content.false g

pub returns-then-seven : goal.returns-then-seven
returns-then-seven c =
    let f = sym c.is_fixed.ensures ∙ c.if-is_fixed.false in
    let g = sym c.fits_label.ensures ∙ c.if-not-fits_label.false in
    c.judge_high.ensures ∙ to_high _ _ _ f _ c.first_low.ensures c.if-first_low-content.false g c.if-seven.true

pub returns : goal.returns
returns c =
    let f = sym c.is_fixed.ensures ∙ c.if-is_fixed.false in
    let g = sym c.fits_label.ensures ∙ c.if-not-fits_label.false in
    to-good _ _ _ f _ c.first_low.ensures c.if-first_low-content.false g c.if-seven.false
