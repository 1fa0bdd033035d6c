use mathlib.Core.Path.{◌≡◌, refl, ap, ◌∙◌}
use Prim.Native.Nat.{◌-◌, ◌*◌}
use native.Mathlib.Omega.{arith}
use Rattle.meaning_day.specs.Days.{max_sets}
use Rattle.day_index.proofs.PutSetsLaws.{set-turn, put-end}
use Rattle.day_index.proofs.put_sets.Goals as goal
use Rattle.std.specs.Prelude.{Ok}

pub loop-k-init : goal.loop-k-init
loop-k-init c =
    let z : c.args.count ≡ c.args.count - 0 = omega arith in
    (omega arith, c.requires.counted ∙ ap Ok z, refl, refl)

pub overflow_mul-k : goal.overflow_mul-k
overflow_mul-k c =
    omega (arith, c.requires.room, c.ranges, c.well_formed)

pub put_entry-requires : goal.put_entry-requires
put_entry-requires c =
    omega (arith, c.requires.room, c.loop-k.invariant.2)

pub overflow_add-at : goal.overflow_add-at
overflow_add-at c =
    let a = c.args in
    let l = c.loop-k in
    let t = set-turn a.file.now l.at l.k a.count _ c.entry_at-entry.ensures (omega arith) l.invariant.0 l.invariant.1 in
    omega (arith, t.within, c.ranges, c.well_formed)

pub loop-k-preserved : goal.loop-k-preserved
loop-k-preserved c =
    let a = c.args in
    let l = c.loop-k in
    let t = set-turn a.file.now l.at l.k a.count _ c.entry_at-entry.ensures (omega arith) l.invariant.0 l.invariant.1 in
    let p = t.puts l.index _ (omega (arith, c.requires.room, l.invariant.2)) c.put_entry.ensures in
    (t.within, t.still, p.0 ∙ l.invariant.2, p.1 ∙ l.invariant.3)

pub shape_of-index : goal.shape_of-index
shape_of-index c = c.loop-k.invariant.2

pub returns : goal.returns
returns c =
    let a = c.args in
    let l = c.loop-k in
    let z : a.count - l.k ≡ 0 = omega arith in
    put-end a.file.now (max_sets - l.k) l.at (l.k * 4) l.index (l.invariant.1 ∙ ap Ok z) ∙ l.invariant.3
