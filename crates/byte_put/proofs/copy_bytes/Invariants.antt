-- `copy_bytes`: a turn is a byte more.
use mathlib.Core.Path.{◌≡◌}
use mathlib.Core.List.{◌++◌}
use lib.ListN.{length, drop, take}
use Rattle.byte_put.proofs.copy_bytes.Given as goal

abbrev pub invariant-loop-i : goal.invariant-loop-i
invariant-loop-i l = (l.dst ≡ take l.i l.src ++ drop l.i l.initial.dst) × (length l.dst ≡ length l.initial.dst)
