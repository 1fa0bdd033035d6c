-- `sheet_asks_seven`: a sheet without a byte over 7Fh asks for nothing, whatever the set says.
use mathlib.Core.Path.{sym}
use Rattle.correct_offer.proofs.OfferWalkLaws.{plain-unasked}
use Rattle.correct_offer.proofs.sheet_asks_seven.Goals as goal

pub returns-then-all_plain : goal.returns-then-all_plain
returns-then-all_plain c = sym (plain-unasked _ _ (c.all_plain.ensures c.if-all_plain.true))

pub returns : goal.returns
returns c = c.asks_seven.ensures
