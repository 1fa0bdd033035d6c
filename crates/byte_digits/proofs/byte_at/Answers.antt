-- `byte_at` is the element, or 0 after the end.
use mathlib.Core.Path.{sym}
use native.Mathlib.Omega.{arith}
use lib.ListN.{get_or-eq_default}
use Rattle.byte_digits.proofs.byte_at.Goals as goal

pub returns-then-c-i : goal.returns-then-c-i
returns-then-c-i c = let a = c.args in sym (get_or-eq_default a.c.now 0 {n = a.i} (omega arith))
