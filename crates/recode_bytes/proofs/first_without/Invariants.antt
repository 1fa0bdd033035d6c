-- `first_without`: the search stops in a part, or goes on after it.
use mathlib.Core.Path.{◌≡◌}
use Prim.Native.Nat.{◌-◌, ◌≤◌}
use lib.ListN.{length}
use Rattle.recode_bytes.specs.Mapped.{first_without}
use Rattle.recode_bytes.proofs.first_without.Given as goal

abbrev pub invariant-loop-i : goal.invariant-loop-i
invariant-loop-i l = (l.i ≤ length l.s) × (first_without l.table l.s l.i (length l.s - l.i) ≡ first_without l.table l.s 0 (length l.s))

abbrev pub decreases-loop-i : goal.decreases-loop-i
decreases-loop-i l = length l.s - l.i
