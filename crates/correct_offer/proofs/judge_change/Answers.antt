-- `judge_change`: 19 by the number alone, else what speaks against the content for the label of the line.
use mathlib.Core.Path.{sym, ap, ◌∙◌}
use Rattle.std.specs.Prelude.{Err}
use Rattle.meaning.specs.declared.Refusal.{Refusal}
use Rattle.correct_offer.specs.Offered.{terms_of}
use Rattle.correct_offer.proofs.OfferWalkLaws.{answer-some, change-none, change-beyond, change-there}
use Rattle.correct_offer.proofs.judge_change.Goals as goal

pub returns-then-line-lt1 : goal.returns-then-line-lt1
returns-then-line-lt1 c =
    let a = c.args in
    ap Err c.no_such_line.ensures ∙ change-none _ (terms_of a.set.now a.shape a.content.now) _ _ c.if-line-lt1.true

pub returns-then-shape-line : goal.returns-then-shape-line
returns-then-shape-line c =
    let a = c.args in
    ap Err c.no_such_line-then-shape-line.ensures ∙ change-beyond _ (terms_of a.set.now a.shape a.content.now) _ _ c.if-shape-line.true

pub returns-in-Some : goal.returns-in-Some
returns-in-Some c =
    let a = c.args in
    ap (λ (r : Refusal). Err (record { refusal = r; line = c.line_after-found.result })) c.refusal-refusal.ensures ∙ answer-some c.in-Some.objection a.content.now c.line_after-found.result
    ∙ change-there _ (terms_of a.set.now a.shape a.content.now) _ _ c.if-line-lt1.false c.if-shape-line.false _ c.line_after-found.ensures
    _ c.asks_seven-seven.ensures _ (sym c.in-Some.is ∙ c.judge_content.ensures)

pub returns-in-None : goal.returns-in-None
returns-in-None c =
    let a = c.args in
    change-there _ (terms_of a.set.now a.shape a.content.now) _ _ c.if-line-lt1.false c.if-shape-line.false _ c.line_after-found.ensures
    _ c.asks_seven-seven.ensures _ (sym c.in-None.is ∙ c.judge_content.ensures)
