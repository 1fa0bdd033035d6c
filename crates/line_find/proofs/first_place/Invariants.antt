-- `first_place`: what is left to walk is always what is to be walked in all.
use mathlib.Core.Path.{◌≡◌}
use Prim.Native.Nat.{◌-◌}
use Rattle.meaning.specs.Limits.{max_lines}
use Rattle.line_find.specs.FirstPlace.{place_from}
use Rattle.line_find.proofs.first_place.Given as goal

abbrev pub invariant-loop : goal.invariant-loop
invariant-loop l = place_from l.label l.set l.at (max_lines - l.counter) ≡ place_from l.label l.set 0 max_lines
