-- `scan_each` is the walk `scan_from`: the scan of the lines that are left is the scan of all.
use mathlib.Core.Path.{◌≡◌}
use Prim.Native.Nat.{◌-◌, ◌≤◌}
use lib.ListN.{length}
use Rattle.meaning.specs.Limits.{max_lines}
use Rattle.line_scan.specs.Scan.{scan_from}
use Rattle.line_scan.proofs.scan_each.Given as goal

abbrev pub invariant-loop-lines : goal.invariant-loop-lines
invariant-loop-lines l =
    (l.at ≤ length l.s) × (scan_from l.s l.at l.lines (max_lines - l.lines) ≡ scan_from l.s l.start l.before (max_lines - l.before))
