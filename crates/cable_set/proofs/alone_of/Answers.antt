-- `alone-of`: as the set is judged, and 18 if something follows it.
use mathlib.Core.Path.{ap, ◌∙◌}
use Rattle.meaning.proofs.ResultLaws.{handed-on}
use Rattle.cable_set.proofs.AloneSetLaws.{held-refused, held_more, held-only}
use Rattle.cable_set.proofs.alone_of.Goals as goal
use Rattle.std.specs.Prelude.{Err}

pub returns-then-shape-length : goal.returns-then-shape-length
returns-then-shape-length c =
    ap Err c.at.ensures ∙ held_more _ _ _ c.in_ok-shape.was c.if-shape-length.true

pub returns-in_err-shape : goal.returns-in_err-shape
returns-in_err-shape c =
    handed-on _ c.from_residual.ensures.1 ∙ (held-refused _ _ _ c.in_err-shape.was)

pub returns : goal.returns
returns c =
    held-only _ _ _ c.in_ok-shape.was c.if-shape-length.false
