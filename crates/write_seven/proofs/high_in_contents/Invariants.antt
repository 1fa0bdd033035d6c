-- `high_in_contents`: what the contents that are left give is what all give.
use mathlib.Core.Path.{◌≡◌}
use Prim.Native.Nat.{◌-◌, ◌≤◌}
use lib.ListN.{length}
use Rattle.write_seven.specs.ListSeven.{high_in_contents}
use Rattle.write_seven.proofs.high_in_contents.Given as goal

abbrev pub invariant-loop-length : goal.invariant-loop-length
invariant-loop-length l = (l.at ≤ length l.list) × (high_in_contents l.list l.at ≡ high_in_contents l.list 0)

abbrev pub decreases-loop-length : goal.decreases-loop-length
decreases-loop-length l = length l.list - l.at
