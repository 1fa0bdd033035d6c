-- `put_matches`: a chunk of four numbers is an entry, and the search is over once all are put.
use mathlib.Core.Path.{◌≡◌, ◌∙◌}
use Prim.Native.Nat.{◌+◌, ◌≤◌}
use native.Mathlib.Omega.{arith}
use lib.ListN.{length}
use Rattle.meaning_day.specs.DayCalls.{entries_in}
use Rattle.day_lookup.specs.Searching.{standing}
use Rattle.std.proofs.Common.{rules}
use Rattle.std.specs.Slice.Iter.{chunks_exact_rest}
use Rattle.std.specs.Iterator.Adapters.{enumerate_source, enumerate_count}
use Rattle.day_lookup.proofs.SearchLaws.{match-fits, match-turned, match-counted, put-end, left-none}
use Rattle.day_lookup.proofs.put_matches.Goals as goal

pub put_match-found-requires : goal.put_match-found-requires
put_match-found-requires c =
    let a = c.args in
    let l = c.loop-k in
    let st = c.in-Some.ensures.steps in
    let four : length c.in-Some.entry.now ≡ 4 = st.0.1.1 ∙ l.invariant.fours in
    let rest = chunks_exact_rest (enumerate_source l.k-iterator) in
    let later = chunks_exact_rest (enumerate_source c.next.new.self) in
    let n : c.in-Some.k + 1 ≡ enumerate_count l.k-iterator + 1 = omega (arith, st.1) in
    let g : l.found + length (standing a.file.now a.asked.now (c.in-Some.k + 1) (entries_in rest)) ≤ length l.out =
    rw n (omega (arith, l.invariant.counted, l.invariant.room, c.requires.1)) in
    match-fits a.file.now a.asked.now rest c.in-Some.entry.now (chunks_exact_rest (enumerate_source c.next.new.self)) st.0.1.0 four (c.in-Some.k + 1) l.found l.out _ c.stands_at-so.ensures g

pub loop-k-preserved : goal.loop-k-preserved
loop-k-preserved c =
    let a = c.args in
    let l = c.loop-k in
    let st = c.in-Some.ensures.steps in
    let four : length c.in-Some.entry.now ≡ 4 = st.0.1.1 ∙ l.invariant.fours in
    let rest = chunks_exact_rest (enumerate_source l.k-iterator) in
    let later = chunks_exact_rest (enumerate_source c.next.new.self) in
    let n : c.in-Some.k + 1 ≡ enumerate_count l.k-iterator + 1 = omega (arith, st.1) in
    let g : l.found + length (standing a.file.now a.asked.now (c.in-Some.k + 1) (entries_in rest)) ≤ length l.out =
    rw n (omega (arith, l.invariant.counted, l.invariant.room, c.requires.1)) in
    let m : enumerate_count c.next.new.self + 1 ≡ c.in-Some.k + 1 + 1 = omega (arith, st.1, st.2) in
    let t = match-turned a.file.now a.asked.now rest c.in-Some.entry.now later st.0.1.0 four (c.in-Some.k + 1) l.found l.out
    _ c.stands_at-so.ensures g _ _ c.put_match-found.ensures.0 c.put_match-found.ensures.1 in
    let q = match-counted a.file.now a.asked.now rest c.in-Some.entry.now later st.0.1.0 four (c.in-Some.k + 1) l.found l.out
    _ c.stands_at-so.ensures g _ c.put_match-found.ensures.0 in
    record {
      can = search rules;
      finite = search rules;
      fours = st.0.0 ∙ l.invariant.fours;
      room = t.same-room ∙ l.invariant.room;
      counted = rw m (q ∙ rw n l.invariant.counted);
      put = rw m (t.same ∙ rw n l.invariant.put);
    }

pub returns-then-found-count : goal.returns-then-found-count
returns-then-found-count c =
    let a = c.args in
    let l = c.loop-k in
    put-end a.file.now a.asked.now (chunks_exact_rest (enumerate_source l.k-iterator)) (enumerate_count l.k-iterator + 1) l.found l.out (omega (arith, l.invariant.counted, c.if-found-count.true))
    ∙ l.invariant.put

pub returns : goal.returns
returns c =
    let a = c.args in
    let l = c.loop-k in
    let st = c.in-None.ensures.steps in
    let rest = chunks_exact_rest (enumerate_source l.k-iterator) in
    let z = left-none a.file.now a.asked.now rest (enumerate_count l.k-iterator + 1) (omega (arith, st.0.1.0, l.invariant.fours)) in
    put-end a.file.now a.asked.now rest (enumerate_count l.k-iterator + 1) l.found l.out z ∙ l.invariant.put
