-- `line_after` is the walk `line_from`: the line after those that are left is the line after all.
use mathlib.Core.Path.{◌≡◌}
use Prim.Native.Nat.{◌-◌}
use Rattle.correct_offer.specs.Offered.{line_from, line_after}
use Rattle.correct_offer.proofs.line_after.Given as goal

abbrev pub invariant-loop : goal.invariant-loop
invariant-loop l = line_from l.set l.at (l.before - l.counter) ≡ line_after l.set l.before
