-- `list_says_seven`: what the entries that are left say is what all say.
use mathlib.Core.Path.{◌≡◌}
use Prim.Native.Nat.{◌-◌, ◌≤◌}
use lib.ListN.{length}
use Rattle.write_seven.specs.ListSeven.{list_says_seven}
use Rattle.write_seven.proofs.list_says_seven.Given as goal

abbrev pub invariant-loop-label : goal.invariant-loop-label
invariant-loop-label l = (l.at ≤ length l.list) × (list_says_seven l.list l.at ≡ list_says_seven l.list 0)

abbrev pub decreases-loop-label : goal.decreases-loop-label
decreases-loop-label l = length l.list - l.at
