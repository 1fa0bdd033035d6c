-- `place_of`: the byte that is left to find is always the one that is asked for.
use mathlib.Core.Path.{◌≡◌}
use Rattle.cable_data.specs.Carried.{place_after}
use Rattle.cable_data.proofs.CarriedLaws.{Ahead}
use Rattle.cable_data.proofs.place_of.Given as goal

abbrev pub invariant-loop-left : goal.invariant-loop-left
invariant-loop-left l = Ahead l.set l.at l.left × (place_after l.set l.at l.left ≡ place_after l.set 0 l.n)

abbrev pub decreases-loop-left : goal.decreases-loop-left
decreases-loop-left l = l.left
