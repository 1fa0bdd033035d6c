-- The loop of `whole_from`: what is left passes exactly if the whole does.
use mathlib.Core.Path.{◌≡◌}
use lib.ListN.{drop}
use Rattle.meaning.specs.Kinds.{whole}
use Rattle.table_floats.proofs.whole_from.Given as goal

abbrev pub invariant-loop-i : goal.invariant-loop-i
invariant-loop-i l = whole (drop l.i l.c) ≡ whole (drop l.from l.c)
