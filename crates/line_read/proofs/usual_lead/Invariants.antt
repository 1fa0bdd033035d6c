-- `usual_lead`: while every byte so far is a usual one, those of the first seven that are left are digits exactly if all are.
use mathlib.Core.Path.{◌≡◌}
use mathlib.Core.Bool.{true}
use lib.ListN.{drop}
use Rattle.meaning.specs.Digits.{all_digits}
use Rattle.line_read.proofs.usual_lead.Given as goal

abbrev pub invariant-loop-b : goal.invariant-loop-b
invariant-loop-b l = l.fit ≡ true → all_digits (drop l.b-index l.b-items) ≡ all_digits l.b-items
