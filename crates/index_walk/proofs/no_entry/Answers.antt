-- `no_entry`: its walk is what `start` answers.
use Rattle.index_walk.proofs.no_entry.Goals as goal

pub returns : goal.returns
returns c = rw c.start-walk.ensures
