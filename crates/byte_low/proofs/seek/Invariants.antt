-- `seek` is the walk `first_not`: the search among the bytes that are left finds what the search among all finds.
use mathlib.Core.Path.{◌≡◌}
use Prim.Native.Nat.{◌+◌, ◌-◌}
use Rattle.byte_low.specs.Seek.{first_not}
use Rattle.byte_low.proofs.seek.Given as goal

abbrev pub invariant-loop-i : goal.invariant-loop-i
invariant-loop-i g l =
    let passes = g.T.ByteTest.passes l.test in
    first_not passes l.s l.i (l.at + l.k - l.i) ≡ first_not passes l.s l.at l.k
