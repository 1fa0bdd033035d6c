-- `digits_at`: after the number so far, the bytes that are left come to what all of them come to.
use mathlib.Core.Path.{◌≡◌}
use Prim.Native.Nat.{◌+◌, ◌*◌, ◌^◌, ◌≤◌}
use lib.ListN.{drop}
use Rattle.line_read.specs.Told.{bytes_from}
use Rattle.line_read.proofs.digits_at.Given as goal

abbrev pub invariant-loop-b : goal.invariant-loop-b
invariant-loop-b g l = (l.number * 9 + 256 ≤ 256 * 10 ^ l.b-index) × (bytes_from l.number (drop l.b-index l.b-items) ≡ bytes_from 0 l.b-items)
