-- `count_sets`: the sets counted, and those that are left, are always all.
use mathlib.Core.Path.{◌≡◌}
use Prim.Native.Nat.{◌-◌, ◌≤◌}
use lib.ListN.{length, drop}
use Rattle.meaning.specs.Answers.{made}
use Rattle.meaning_day.specs.Days.{max_sets, sets_from}
use Rattle.day_index.specs.Counting.{counted_after}
use Rattle.day_index.proofs.count_sets.Given as goal

abbrev pub invariant-loop-at : goal.invariant-loop-at
invariant-loop-at l =
    (l.count ≤ max_sets) × (l.at ≤ length l.file) × (counted_after l.count (sets_from (max_sets - l.count) l.at (drop l.at l.file)) ≡ made (sets_from max_sets 0 l.file))

abbrev pub decreases-loop-at : goal.decreases-loop-at
decreases-loop-at l = length l.file - l.at
