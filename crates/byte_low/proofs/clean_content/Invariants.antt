-- `clean_content`: the search among the bytes after clean blocks finds what the search among all finds, and in the last block it finds nothing.
use mathlib.Core.Path.{◌≡◌}
use Prim.Native.Nat.{◌-◌, ◌≤◌}
use Rattle.byte_low.specs.Low.{first_low}
use Rattle.byte_low.proofs.clean_content.Given as goal

abbrev pub invariant-loop-i : goal.invariant-loop-i
invariant-loop-i l = (l.from ≤ l.i) × (l.i ≤ l.end) × (first_low l.s l.i (l.end - l.i) ≡ first_low l.s l.from (l.end - l.from))

abbrev pub decreases-loop-i : goal.decreases-loop-i
decreases-loop-i l = l.end - l.i

abbrev pub invariant-loop-i-2 : goal.invariant-loop-i-2
invariant-loop-i-2 l = (l.from ≤ l.i) × (l.i ≤ l.end) × (first_low l.s l.i (l.end - l.i) ≡ first_low l.s l.from (l.end - l.from))

abbrev pub decreases-loop-i-2 : goal.decreases-loop-i-2
decreases-loop-i-2 l = l.end - l.i
