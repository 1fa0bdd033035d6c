-- `pass_blocks`: none of the bytes in the blocks that it passes over fails.
use Prim.Native.Nat.{◌-◌}
use Rattle.byte_low.specs.Seek.{Passed}
use Rattle.byte_low.proofs.pass_blocks.Given as goal

abbrev pub invariant-loop-i : goal.invariant-loop-i
invariant-loop-i g l = Passed (g.T.ByteTest.passes l.test) l.s l.at l.i l.end

abbrev pub decreases-loop-i : goal.decreases-loop-i
decreases-loop-i g l = l.end - l.i
