-- `scan_from` is the walk `scan_from`: the scan of the lines after those that are passed over is the scan of all.
use mathlib.Core.Path.{◌≡◌}
use Prim.Native.Nat.{◌-◌, ◌≤◌}
use lib.ListN.{length}
use Rattle.meaning.specs.Limits.{max_lines}
use Rattle.line_scan.specs.Scan.{scan_from}
use Rattle.line_scan.proofs.scan_from.Given as goal

abbrev pub invariant-loop-at : goal.invariant-loop-at
invariant-loop-at l =
    (l.at ≤ length l.s) × (l.lines ≤ max_lines) × (scan_from l.s l.at l.lines (max_lines - l.lines) ≡ scan_from l.s l.start l.before (max_lines - l.before))

abbrev pub decreases-loop-at : goal.decreases-loop-at
decreases-loop-at l = max_lines - l.lines
