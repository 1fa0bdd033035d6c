-- `label_at`: the four bytes are these, and they are no less than `0000`.
use Prim.Native.Nat.{◌+◌}
use native.Mathlib.Omega.{arith}
use Rattle.meaning.specs.Lines.{length_digits}
use Rattle.line_read.proofs.ToldLaws.{four-made}
use Rattle.line_read.proofs.label_at.Goals as goal

pub returns : goal.returns
returns c =
    let n = four-made c.args.s.now (c.args.at + length_digits) c.digits_at.result (omega (arith, c.requires.0)) c.digits_at.ensures.0 in
    omega (arith, n)
