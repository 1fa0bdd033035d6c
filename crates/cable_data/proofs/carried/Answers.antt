-- `carried`: by the one test.
use borrow.Author.Tests.{eq-eqb, ne_eqb}
use Rattle.cable_data.specs.Carried.{carried}
use Rattle.cable_data.proofs.carried.Goals as goal

pub returns-then-b-eq-CR : goal.returns-then-b-eq-CR
unfolding carried
returns-then-b-eq-CR c = search eq-eqb

pub returns : goal.returns
unfolding carried
returns c = search ne_eqb
