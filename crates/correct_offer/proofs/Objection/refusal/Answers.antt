-- `refusal`: as its number says it.
use mathlib.Core.Path.{◌∙◌}
use Rattle.correct_offer.proofs.OfferWalkLaws.{by-its-number}
use Rattle.correct_offer.proofs.Objection.refusal.Goals as goal

pub returns : goal.returns
returns c =
    let a = c.args in
    c.refusal_by_number.ensures ∙ rw c.number.ensures (by-its-number a.self a.label a.content.now a.at 0)
