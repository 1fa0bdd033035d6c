-- `asks_seven`: by the byte that counts.
use Rattle.correct_offer.proofs.OfferWalkLaws.{asks-it, asks_nothing}
use Rattle.correct_offer.proofs.asks_seven.Goals as goal

pub returns-then-high_for-offered : goal.returns-then-high_for-offered
returns-then-high_for-offered c = asks-it _ _ _ c.high_for.ensures c.if-high_for-offered.true

pub returns : goal.returns
returns c = asks_nothing _ _ _ c.high_for.ensures c.if-high_for-offered.false
