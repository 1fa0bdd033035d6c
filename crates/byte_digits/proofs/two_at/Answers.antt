-- `two_at` asks the two bytes, if there are two.
use mathlib.Core.Path.{sym}
use native.Mathlib.Omega.{arith}
use Rattle.meaning.specs.Kinds.{two_at}
use Rattle.byte_digits.proofs.TwoDigitsLaws.{two-end}
use Rattle.byte_digits.proofs.two_at.Goals as goal

pub returns-then-c-i : goal.returns-then-c-i
returns-then-c-i c = sym (two-end _ c.args.i (omega arith))

pub returns : goal.returns
unfolding two_at
returns c = rw (← c.byte_at.ensures) c.two_digits.ensures
