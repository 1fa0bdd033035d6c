-- `size_at`: the three bytes are these, and they are no less than `000`.
use native.Mathlib.Omega.{arith}
use Rattle.line_read.proofs.ToldLaws.{three-made}
use Rattle.line_read.proofs.size_at.Goals as goal

pub returns : goal.returns
returns c =
    let n = three-made c.args.s.now c.args.at c.digits_at-bytes.result c.requires.0 c.digits_at-bytes.ensures.0 in
    (omega (arith, n), omega (arith, c.digits_at-bytes.ensures.1))
