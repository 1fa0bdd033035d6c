-- `put_entries`: what is left to put is always what is to be put in all.
use mathlib.Core.Path.{◌≡◌}
use Prim.Native.Nat.{◌+◌, ◌-◌, ◌≤◌}
use lib.ListN.{length}
use Rattle.byte_put.specs.Places.{over}
use Rattle.list.specs.Listing.{AllRead, listed_from}
use Rattle.list.proofs.put_entries.Given as goal

abbrev pub invariant-loop-k : goal.invariant-loop-k
invariant-loop-k l =
    (l.at ≤ length l.set) × AllRead l.set l.at (l.lines - l.k) × (length l.out ≡ length l.initial.out)
    × (l.to + length (listed_from l.set l.at l.k (l.lines - l.k)) ≤ length l.out)
    × (over l.to (listed_from l.set l.at l.k (l.lines - l.k)) l.out ≡ over 0 (listed_from l.set 0 0 l.lines) l.initial.out)
