-- `terms_of`: what the shape says, and whether seven bits have to be asked for.
use Rattle.correct_offer.proofs.terms_of.Goals as goal

pub returns : goal.returns
returns c = rw c.sheet_asks_seven-seven.ensures
