-- `pass_entries`: what is left of the pass is always the whole of it.
use mathlib.Core.Path.{◌≡◌}
use Prim.Native.Nat.{◌-◌}
use lib.ListN.{length}
use Rattle.judge_missing.specs.Lacks.{flagged_of, told}
use Rattle.write_judge.specs.Judging.{Checked, entries_pass}
use Rattle.write_judge.proofs.pass_entries.Given as goal

abbrev pub invariant-loop-at : goal.invariant-loop-at
invariant-loop-at l =
    Checked l.list l.at
    × (entries_pass l.list l.t l.at (flagged_of l.state) (told l.state.lack)
    ≡ entries_pass l.list l.t l.start (flagged_of l.initial.state) (told l.initial.state.lack))

abbrev pub decreases-loop-at : goal.decreases-loop-at
decreases-loop-at l = length l.list - l.at
