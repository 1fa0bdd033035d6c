-- `read_to`: the labels of one line more are there after each turn.
use mathlib.Core.Path.{◌≡◌}
use Prim.Native.Nat.{ℕ, ◌<◌}
use lib.ListN.{get_or}
use Rattle.line_read.specs.Told.{told_label}
use Rattle.line_roll.specs.Rolled.{line_start}
use Rattle.line_roll.proofs.Roll.read_to.Given as goal

abbrev pub invariant-loop-line : goal.invariant-loop-line
invariant-loop-line g l =
    (l.self.set ≡ l.initial.self.set) × (l.self.known ≡ l.initial.self.known) × (l.at ≡ line_start l.self.set.now l.line)
    × ((k : ℕ) → k < l.line → get_or l.self.labels k 0 ≡ told_label l.self.set.now (line_start l.self.set.now k))
