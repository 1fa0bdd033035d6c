-- `put_matches`: those put, and those left to put, are always all.
use mathlib.Core.Path.{◌≡◌}
use Prim.Native.Nat.{◌+◌}
use lib.ListN.{length}
use Rattle.std.specs.Slice.Iter.{chunks_exact_rest, chunks_exact_size}
use Rattle.std.specs.Iterator.Adapters.{enumerate_source, enumerate_count}
use Rattle.byte_put.specs.Places.{over}
use Rattle.meaning_day.specs.DayCalls.{entries_in}
use Rattle.day_lookup.specs.Searching.{standing}
use Rattle.day_lookup.proofs.put_matches.Given as goal

abbrev pub invariant-loop-k : goal.invariant-loop-k
invariant-loop-k l = record {
  can : (goal.iterator-loop-k).can_next l.k-iterator;
  finite : (goal.iterator-loop-k).is_finite l.k-iterator;
  fours : chunks_exact_size (enumerate_source l.k-iterator) ≡ 4;
  room : length l.out ≡ length l.initial.out;
  counted : l.found + length (standing l.file l.asked (enumerate_count l.k-iterator + 1) (entries_in (chunks_exact_rest (enumerate_source l.k-iterator)))) ≡ l.count;
  put :
      over l.found (standing l.file l.asked (enumerate_count l.k-iterator + 1) (entries_in (chunks_exact_rest (enumerate_source l.k-iterator)))) l.out
      ≡ over 0 (standing l.file l.asked 1 (entries_in l.index)) l.initial.out;
}
