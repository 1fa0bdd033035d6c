-- `first` is the walk `first_not`: each search finds what the one before it finds.
use mathlib.Core.Path.{ap, ◌∙◌}
use native.Mathlib.Omega.{arith}
use Rattle.byte_low.specs.Seek.{first_not}
use Rattle.byte_low.proofs.SeekLaws.{seek_from}
use Rattle.byte_low.proofs.first.Goals as goal

pub returns : goal.returns
returns g c =
    let passes = g.T.ByteTest.passes c.args.test in
    c.seek.ensures
    ∙ (seek_from passes _ _ _ _ c.pass-i.ensures ∙ (seek_from passes _ _ _ _ c.pass-wide.ensures ∙ ap (first_not passes _ _) (omega arith)))
