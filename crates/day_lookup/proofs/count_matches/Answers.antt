-- `count_matches`: a chunk of four numbers is an entry.
use mathlib.Core.Path.{◌≡◌, ap, ◌∙◌}
use native.Mathlib.Omega.{arith}
use lib.ListN.{length, length-append}
use Rattle.std.specs.Slice.Iter.{chunks_exact_rest}
use Rattle.day_lookup.proofs.SearchLaws.{count_turn, count-end, one-if}
use Rattle.day_lookup.proofs.count_matches.Goals as goal

pub loop-entry-preserved : goal.loop-entry-preserved
loop-entry-preserved c =
    let a = c.args in
    let l = c.loop-entry in
    let st = c.in-Some.ensures.steps in
    let four : length c.in-Some.entry.now ≡ 4 = st.1.1 ∙ l.invariant.fours in
    let one = one-if _ _ c.from-count.ensures in
    let t = count_turn a.file.now a.asked.now (chunks_exact_rest l.entry-iterator) c.in-Some.entry.now (chunks_exact_rest c.next.new.self) st.1.0 four l.count
    _ _ c.stands_at.ensures one.0 in
    let n = length-append c.in-Some.entry.now (chunks_exact_rest c.next.new.self) in
    record {
      can = omega (arith, st.0, l.invariant.fours);
      finite = tt {0};
      fours = st.0 ∙ l.invariant.fours;
      counted = t ∙ l.invariant.counted;
      within = omega (arith, l.invariant.within, ap length st.1.0, n, four, one.1);
    }

pub returns : goal.returns
returns c =
    let a = c.args in
    let l = c.loop-entry in
    let st = c.in-None.ensures.steps in
    count-end a.file.now a.asked.now (chunks_exact_rest l.entry-iterator) l.count (omega (arith, st.1.0, l.invariant.fours)) ∙ l.invariant.counted
