-- `label_for`: by its tests.
use borrow.Author.Tests.{le-leb, lt-leb, eq-eqb, ne_eqb}
use Rattle.meaning_cable.specs.Blocks.{block_label}
use Rattle.cable_block.proofs.label_for.Goals as goal

pub returns-then-i-eq0 : goal.returns-then-i-eq0
unfolding block_label
returns-then-i-eq0 c = search eq-eqb

pub returns-then-i-blocks : goal.returns-then-i-blocks
unfolding block_label
returns-then-i-blocks c = search (lt-leb, ne_eqb)

pub returns : goal.returns
unfolding block_label
returns c = search (le-leb, ne_eqb)
