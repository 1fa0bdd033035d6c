-- The loop of `same-bytes`: what is left of the two is the same exactly if the two are.
use mathlib.Core.Path.{◌≡◌}
use lib.ListN.{drop}
use Rattle.meaning.specs.Kinds.{same_bytes}
use Rattle.table_kinds.proofs.same_bytes.Given as goal

abbrev pub invariant-loop-i : goal.invariant-loop-i
invariant-loop-i l = same_bytes (drop l.i l.c) (drop l.i l.d) ≡ same_bytes l.c l.d
