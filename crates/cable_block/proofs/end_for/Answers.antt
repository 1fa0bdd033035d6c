-- `end_for`: the lesser of two.
use native.Mathlib.Omega.{arith}
use Rattle.cable_block.specs.Cutting.{end_for}
use Rattle.cable_block.proofs.CutLaws.{count-few}
use Rattle.cable_block.proofs.end_for.Goals as goal

pub overflow_add-i : goal.overflow_add-i
overflow_add-i c = omega (arith, count-few c.args.n, c.requires.0, c.requires.1)

pub returns : goal.returns
unfolding end_for
returns c = omega (arith, c.cut_for.ensures, c.min.ensures)
