-- `first_of_few` is the walk `first_not`: two halves that pass leave no byte between them.
use mathlib.Core.Path.{sym}
use native.Mathlib.Omega.{arith}
use Rattle.meaning.proofs.Bools.{and_left, and_right}
use Rattle.byte_low.proofs.SeekLaws.{seek-ends}
use Rattle.byte_low.proofs.first_of_few.Goals as goal

pub returns-then-all_pass : goal.returns-then-all_pass
returns-then-all_pass g c =
    let first = c.all_pass.ensures (and_left _ _ c.if-all_pass.true) in
    let last = c.all_pass-then-k-ge-HALF_BLOCK.ensures (and_right c.all_pass.result _ c.if-all_pass.true) in
    sym (seek-ends (g.T.ByteTest.passes c.args.test) _ _ _ _ (omega arith) (omega arith) first last)
