-- `find_low` is the walk `first_low`: the search after clean blocks finds what the search among all bytes finds.
use mathlib.Core.Path.{ap, ◌∙◌}
use native.Mathlib.Omega.{arith}
use lib.Dec.{leb}
use Rattle.meaning.specs.Lines.{least_byte}
use Rattle.byte_low.specs.Low.{first_low}
use Rattle.byte_low.proofs.SeekLaws.{seek_from}
use Rattle.byte_low.proofs.find_low.Goals as goal

pub returns : goal.returns
returns c = c.seek.ensures ∙ (seek_from (leb least_byte) _ _ _ _ c.pass-i.ensures ∙ ap (first_low _ _) (omega arith))
