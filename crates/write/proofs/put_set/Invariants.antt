-- `put_set`: what is left to put is always what is to be put in all.
use mathlib.Core.Path.{◌≡◌}
use Prim.Native.Nat.{◌+◌, ◌-◌, ◌≤◌}
use lib.ListN.{length}
use Rattle.meaning.specs.Digits.{digits}
use Rattle.meaning.specs.Lists.{sum_digits}
use Rattle.byte_put.specs.Places.{over}
use Rattle.write.specs.Writing.{lines_left}
use Rattle.write.proofs.put_set.Given as goal

abbrev pub invariant-loop-label : goal.invariant-loop-label
invariant-loop-label l =
    (l.at ≤ length l.list)
    × (length l.out ≡ length l.initial.out)
    × (l.to + length (lines_left l.list (digits sum_digits l.total) l.at) ≤ length l.out)
    × (over l.to (lines_left l.list (digits sum_digits l.total) l.at) l.out ≡ over 0 (lines_left l.list (digits sum_digits l.total) 0) l.initial.out)

abbrev pub decreases-loop-label : goal.decreases-loop-label
decreases-loop-label l = length l.list - l.at
