-- `stands_at`: one byte more of the end is right at each turn.
use Prim.Native.Nat.{◌+◌, ◌≤◌}
use lib.ListN.{length}
use Rattle.day_lookup.proofs.StandsLaws.{Back}
use Rattle.day_lookup.proofs.stands_at.Given as goal

abbrev pub invariant-loop-i : goal.invariant-loop-i
invariant-loop-i l = (l.i ≤ length l.asked + 1) × Back l.file l.place l.asked l.i
