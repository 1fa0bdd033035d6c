-- `check_list`: the check that is left is always the whole of it, and after the last entry that may start there is one too many.
use mathlib.Core.Path.{◌≡◌}
use Prim.Native.Nat.{◌-◌, ◌≤◌, ◌<◌}
use Rattle.meaning.specs.Limits.{max_entries}
use Rattle.meaning.specs.Refusals.{refusal, too_many_lines}
use Rattle.write_judge.specs.Judging.{check_some}
use Rattle.write_judge.proofs.check_list.Given as goal
use Rattle.std.specs.Prelude.{Err}

abbrev pub invariant-loop-before : goal.invariant-loop-before
invariant-loop-before l =
    (l.before < max_entries → check_some l.list l.at (max_entries - l.before) ≡ check_some l.list 0 max_entries)
    × (max_entries ≤ l.before → Err (refusal too_many_lines l.at 0) ≡ check_some l.list 0 max_entries)
