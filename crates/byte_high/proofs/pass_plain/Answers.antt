-- `pass_plain`: the blocks that it passes over have no byte over 7Fh.
use native.Mathlib.Omega.{arith}
use lib.ListN.{length}
use Rattle.byte_low.proofs.SeekLaws.{passed_on}
use Rattle.byte_high.specs.High.{seven_bits}
use Rattle.byte_high.proofs.pass_plain.Goals as goal

pub returns : goal.returns
returns c =
    let s = c.args.s.now in
    let both = passed_on seven_bits s _ _ _ _ (length s) c.pass-long.ensures c.pass.ensures (omega arith) in
    (both.least, both.most, both.none)
