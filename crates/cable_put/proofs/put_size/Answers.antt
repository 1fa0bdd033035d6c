-- `put_size`: after B02 the end of the last line too.
use mathlib.Core.Path.{sym, ◌∙◌}
use native.Mathlib.Omega.{arith}
use Rattle.cable_put.proofs.BlockPutLaws.{last-length, other_length}
use Rattle.cable_put.proofs.put_size.Goals as goal

pub returns-then-label-eq-B02 : goal.returns-then-label-eq-B02
returns-then-label-eq-B02 c =
    omega (arith, last-length c.args.label c.args.bytes.now (omega arith))

pub returns : goal.returns
returns c =
    c.restored_size-size.ensures.0 ∙ sym (other_length c.args.label c.args.bytes.now (λ q. omega arith))
