-- `high_for`: by the offset that is found, and by whether the set says seven bits.
use mathlib.Core.Path.{sym, ◌∙◌}
use Rattle.line_seven.proofs.SevenWalkLaws.{for-found, for-eight, for-none}
use Rattle.line_seven.proofs.high_for.Goals as goal

pub returns-then-says_seven : goal.returns-then-says_seven
returns-then-says_seven c =
    for-found _ _ _ c.first_high-high.ensures (sym c.says_seven.ensures ∙ c.if-says_seven.true)

pub returns-else-says_seven : goal.returns-else-says_seven
returns-else-says_seven c =
    for-eight _ _ _ c.first_high-high.ensures (sym c.says_seven.ensures ∙ c.if-says_seven.false)

pub returns-else-high-bytes : goal.returns-else-high-bytes
returns-else-high-bytes c = for-none _ _ _ c.first_high-high.ensures c.if-high-bytes.false
