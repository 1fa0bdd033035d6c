-- `put_restored`: those put, and those left to put, are always all.
use mathlib.Core.Path.{◌≡◌}
use Prim.Native.Nat.{◌+◌}
use lib.ListN.{length, drop}
use Rattle.byte_put.specs.Places.{over}
use Rattle.meaning_cable.specs.Stream.{restored}
use Rattle.cable_put.proofs.put_restored.Given as goal

abbrev pub invariant-loop-b : goal.invariant-loop-b
invariant-loop-b l =
    (length l.out ≡ length l.initial.out) × (l.to + length (restored (drop l.b-index l.bytes)) ≡ l.at + length (restored l.bytes))
    × (over l.to (restored (drop l.b-index l.bytes)) l.out ≡ over l.at (restored l.bytes) l.initial.out)
