-- `shown_by_sheet` is the walk `shown_from`: what the entries that are left show after those before them is what all show. The roll is that of the set.
use mathlib.Core.Path.{◌≡◌}
use Prim.Native.Nat.{ℕ, ◌+◌, ◌-◌, ◌≤◌}
use lib.ListN.{length}
use Rattle.view_sheet.specs.Showing.{shown_from, EntryWithin, shown_last, shown_by_sheet}
use Rattle.view_sheet.proofs.shown_by_sheet.Given as goal

abbrev pub invariant-loop-at : goal.invariant-loop-at
invariant-loop-at l =
    (l.at ≤ length l.sheet) × (k : ℕ) × (length l.sheet ≤ l.at + k) × (shown_from l.set l.terms l.sheet l.line k l.at (shown_last l.sheet l.last) ≡ shown_by_sheet l.set l.terms l.sheet l.line)
    × (l.roll.set.now ≡ l.set) × EntryWithin l.sheet l.last

abbrev pub decreases-loop-at : goal.decreases-loop-at
decreases-loop-at l = length l.sheet - l.at
