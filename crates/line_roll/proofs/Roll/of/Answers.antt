-- `of`: the first line starts where the set does.
use mathlib.Core.Path.{refl}
use Rattle.line_roll.specs.Rolled.{line_start}
use Rattle.line_roll.proofs.Roll.of.Goals as goal

pub invariant_of-result-clause-at_start : goal.invariant_of-result-clause-at_start
unfolding line_start
invariant_of-result-clause-at_start g c = refl
