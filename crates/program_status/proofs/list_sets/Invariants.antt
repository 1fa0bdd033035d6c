-- `list_sets` ends: the next set starts within the bytes, and what is left is shorter by a set that has a byte or more. No failure is forgotten on the way.
use mathlib.Core.Path.{◌≡◌}
use Prim.Native.Nat.{◌-◌, ◌≤◌}
use lib.ListN.{length}
use Rattle.std.specs.Prelude.{None}
use Rattle.program_status.proofs.StopLaws.{Ahead}
use Rattle.program_status.proofs.list_sets.Given as goal

abbrev pub invariant-loop-refusal : goal.invariant-loop-refusal
invariant-loop-refusal g l = record { within : l.at ≤ length l.input; ahead : Ahead l.input l.at; kept : l.out.failed ≡ None → l.initial.out.failed ≡ None }

abbrev pub decreases-loop-refusal : goal.decreases-loop-refusal
decreases-loop-refusal g l = length l.input - l.at
