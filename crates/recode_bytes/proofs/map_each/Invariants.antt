-- `map_each`: after some turns as many bytes of the part are mapped.
use mathlib.Core.Path.{◌≡◌}
use mathlib.Core.List.{◌++◌}
use Prim.Native.Nat.{◌≤◌}
use lib.ListN.{length, take, drop}
use Rattle.recode_bytes.specs.Mapped.{mapped}
use Rattle.recode_bytes.proofs.map_each.Given as goal

abbrev pub invariant-loop-b : goal.invariant-loop-b
invariant-loop-b l =
    (l.b-index ≤ length l.initial.b-items)
    × (l.b-items ≡ mapped l.table (take l.b-index l.initial.b-items) ++ drop l.b-index l.initial.b-items)
