-- `put_digits` meets its contract: with the digits that are left put, the buffer is what it is to be. A turn is `digit-turn`.
use mathlib.Core.Path.{◌≡◌}
use Prim.Native.Nat.{◌≤◌}
use lib.ListN.{length}
use Rattle.meaning.specs.Digits.{digits}
use Rattle.byte_put.specs.Places.{over}
use Rattle.byte_put.proofs.put_digits.Given as goal

abbrev pub invariant-loop-i : goal.invariant-loop-i
invariant-loop-i l = (l.i ≤ l.k) × ((l.left ≤ l.n) × ((over l.at (digits l.i l.left) l.s ≡ over l.at (digits l.k l.n) l.initial.s) × (length l.s ≡ length l.initial.s)))
