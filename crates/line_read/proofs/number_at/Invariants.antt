-- `number_at` is the walk `number_at`: after the number so far, the bytes that are left write what all of them write.
use mathlib.Core.Path.{◌≡◌}
use Prim.Native.Nat.{◌^◌, ◌<◌}
use lib.ListN.{length}
use Rattle.line_read.specs.Number.{number_at}
use Rattle.line_read.proofs.WrittenNumberLaws.{written}
use Rattle.line_read.proofs.number_at.Given as goal

abbrev pub invariant-loop-b : goal.invariant-loop-b
invariant-loop-b l = (length l.bytes ≡ l.k) × (l.number < 10 ^ l.b-index) × (written l.bytes l.number l.b-index ≡ number_at l.s l.at l.k)
