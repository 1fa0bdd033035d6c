-- `cut_for`: by its tests.
use native.Mathlib.Omega.{arith}
use borrow.Author.Tests.{le-leb, lt-leb, eq-eqb, ne_eqb}
use Rattle.meaning_cable.specs.Blocks.{max_data}
use Rattle.cable_block.specs.Cutting.{cut_for}
use Rattle.cable_block.proofs.CutLaws.{count-few}
use Rattle.cable_block.proofs.cut_for.Goals as goal

pub overflow_mul-result : goal.overflow_mul-result
overflow_mul-result c = omega (arith, count-few c.args.n, c.requires.0, c.requires.1)

pub returns-then-n-gt-DATA : goal.returns-then-n-gt-DATA
unfolding cut_for
returns-then-n-gt-DATA c = rw (lt-leb c.args.n max_data c.if-n-gt-DATA.true) (omega arith)

pub returns-then-i-eq0 : goal.returns-then-i-eq0
unfolding cut_for
returns-then-i-eq0 c = search (le-leb, eq-eqb)

pub returns-then-i-eq1 : goal.returns-then-i-eq1
unfolding cut_for
returns-then-i-eq1 c = search (le-leb, eq-eqb, ne_eqb)

pub returns : goal.returns
unfolding cut_for
returns c = search (le-leb, ne_eqb)
