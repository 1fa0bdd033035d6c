-- `later_entry` is the test of the line number.
use Rattle.view_part.proofs.PartLaws.{later-this, later-other}
use Rattle.view_part.proofs.later_entry.Goals as goal

pub returns-then-named-line : goal.returns-then-named-line
returns-then-named-line c = later-this _ _ _ _ c.if-named-line.true

pub returns : goal.returns
returns c = later-other _ _ _ _ c.if-named-line.false
