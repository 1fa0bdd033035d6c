-- `read_input` ends: each read that gives a byte leaves less room.
use Prim.Native.Nat.{◌-◌}
use lib.ListN.{length}
use Rattle.program_list.proofs.read_input.Given as goal

abbrev pub decreases-loop-at : goal.decreases-loop-at
decreases-loop-at g l = length l.room - l.at
