-- `count_matches`: those counted, and those left, are always all.
use mathlib.Core.Path.{◌≡◌}
use Prim.Native.Nat.{◌+◌, ◌≤◌}
use lib.ListN.{length}
use Rattle.std.specs.Slice.Iter.{chunks_exact_rest, chunks_exact_size}
use Rattle.meaning_day.specs.DayCalls.{entries_in}
use Rattle.day_lookup.specs.Searching.{standing}
use Rattle.day_lookup.proofs.count_matches.Given as goal

abbrev pub invariant-loop-entry : goal.invariant-loop-entry
invariant-loop-entry l = record {
  can : (goal.iterator-loop-entry).can_next l.entry-iterator;
  finite : (goal.iterator-loop-entry).is_finite l.entry-iterator;
  fours : chunks_exact_size l.entry-iterator ≡ 4;
  counted : l.count + length (standing l.file l.asked 1 (entries_in (chunks_exact_rest l.entry-iterator))) ≡ length (standing l.file l.asked 1 (entries_in l.index));
  within : l.count + length (chunks_exact_rest l.entry-iterator) ≤ length l.index;
}
