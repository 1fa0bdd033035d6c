-- `judge_high`: by the byte that is found.
use Rattle.correct_offer.proofs.OfferWalkLaws.{high-found, high-none}
use Rattle.correct_offer.proofs.judge_high.Goals as goal

pub returns-then-first_high-content : goal.returns-then-first_high-content
returns-then-first_high-content c = high-found _ _ c.first_high.ensures c.if-first_high-content.true

pub returns : goal.returns
returns c = high-none _ _ c.first_high.ensures c.if-first_high-content.false
