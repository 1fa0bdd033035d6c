-- `map_bytes`: after some turns the bytes before i are mapped.
use mathlib.Core.Path.{◌≡◌}
use Prim.Native.Nat.{◌-◌, ◌≤◌}
use lib.ListN.{length}
use Rattle.recode_bytes.specs.Mapped.{mapped_at}
use Rattle.recode_bytes.proofs.map_bytes.Given as goal

abbrev pub invariant-loop-i : goal.invariant-loop-i
invariant-loop-i l = (l.i ≤ length l.initial.s) × ((l.s ≡ mapped_at l.table 0 l.i l.initial.s) × (length l.s ≡ length l.initial.s))

abbrev pub decreases-loop-i : goal.decreases-loop-i
decreases-loop-i l = length l.initial.s - l.i
