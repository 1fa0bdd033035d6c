-- `put_sets`: what is put, and what is left to put, is always all.
use mathlib.Core.Path.{◌≡◌}
use Prim.Native.Nat.{◌-◌, ◌*◌, ◌≤◌}
use lib.ListN.{length, drop}
use Rattle.meaning.specs.Answers.{made}
use Rattle.byte_put.specs.Places.{over}
use Rattle.meaning_day.specs.Days.{max_sets, sets_from}
use Rattle.meaning_day.specs.DayCalls.{columns}
use Rattle.day_index.specs.Counting.{listed}
use Rattle.day_index.proofs.put_sets.Given as goal
use Rattle.std.specs.Prelude.{Ok}

abbrev pub invariant-loop-k : goal.invariant-loop-k
invariant-loop-k l =
    (l.at ≤ length l.file) × (made (sets_from (max_sets - l.k) l.at (drop l.at l.file)) ≡ Ok (l.count - l.k)) × (length l.index ≡ length l.initial.index)
    × (over (l.k * 4) (columns (listed (sets_from (max_sets - l.k) l.at (drop l.at l.file)))) l.index ≡ over 0 (columns (listed (sets_from max_sets 0 l.file))) l.initial.index)
