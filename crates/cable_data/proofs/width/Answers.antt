-- `width`: by the one test.
use borrow.Author.Tests.{eq-eqb, ne_eqb}
use Rattle.cable_data.specs.Carried.{width}
use Rattle.cable_data.proofs.width.Goals as goal

pub returns-then-b-eq-CR : goal.returns-then-b-eq-CR
unfolding width
returns-then-b-eq-CR c = search eq-eqb

pub returns : goal.returns
unfolding width
returns c = search ne_eqb
