-- `all_pass`: while no byte so far fails, the search has come as far as the loop.
use mathlib.Core.Path.{◌≡◌}
use mathlib.Core.Bool.{true}
use Prim.Native.Nat.{◌+◌, ◌-◌}
use Rattle.byte_low.specs.Seek.{first_not}
use Rattle.byte_low.proofs.all_pass.Given as goal

abbrev pub invariant-loop-i : goal.invariant-loop-i
invariant-loop-i g l =
    let passes = g.T.ByteTest.passes l.test in
    l.fit ≡ true → first_not passes l.s (l.at + l.i) (g.row.N - l.i) ≡ first_not passes l.s l.at g.row.N
