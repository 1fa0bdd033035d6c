-- `first_unseen`: the labels that are left answer what all do.
use mathlib.Core.Path.{◌≡◌}
use lib.ListN.{drop}
use Rattle.std.specs.Prelude.{IsTrue}
use Rattle.judge_missing.specs.Lacks.{lack_by, in_rows}
use Rattle.judge_missing.proofs.first_unseen.Given as goal

abbrev pub invariant-loop-number : goal.invariant-loop-number
invariant-loop-number g l =
    (lack_by l.flags l.place (drop l.number-index l.labels) ≡ lack_by l.flags l.place l.labels) × IsTrue (in_rows (drop l.number-index l.labels))
