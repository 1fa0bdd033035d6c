-- `plain_front` is the walk `plain_front`: the search goes on after the blocks that are passed over.
use mathlib.Core.Path.{◌∙◌}
use Rattle.byte_high.proofs.HighLaws.{front-after}
use Rattle.byte_high.proofs.plain_front.Goals as goal

pub returns : goal.returns
returns c =
    let p = c.pass_plain-from.ensures in
    c.seek.ensures ∙ front-after _ _ p.1 p.2
