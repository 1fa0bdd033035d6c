-- `put_data`: what is left to put is always what is to be put in all.
use mathlib.Core.Path.{◌≡◌}
use Prim.Native.Nat.{◌+◌, ◌-◌, ◌≤◌}
use lib.ListN.{length}
use Rattle.byte_put.specs.Places.{over}
use Rattle.cable_data.specs.Carried.{data_from, place_after}
use Rattle.cable_data.proofs.put_data.Given as goal

abbrev pub invariant-loop-i : goal.invariant-loop-i
invariant-loop-i l =
    (l.i ≤ l.n) × (length l.out ≡ length l.initial.out) × (place_after l.set l.at (l.n - l.i) ≤ length l.set)
    × (over (l.to + l.i) (data_from l.set l.at (l.n - l.i)) l.out ≡ over l.to (data_from l.set l.from l.n) l.initial.out)

abbrev pub decreases-loop-i : goal.decreases-loop-i
decreases-loop-i l = l.n - l.i
