use mathlib.Core.Path.{◌≡◌, refl, sym, ap, ◌∙◌, subst}
use mathlib.Core.List.{List}
use Prim.Native.Nat.{ℕ, ◌-◌}
use native.Mathlib.Omega.{arith}
use lib.ListN.{length}
use Rattle.line_read.proofs.LineMeaning.{read_back}
use Rattle.byte_put.specs.Places.{over}
use Rattle.byte_put.proofs.OverLaws.{over_none}
use Rattle.list.specs.Listing.{AllRead, listed_from}
use Rattle.list.proofs.ListLaws.{all_told, all-within, content-length, entries-end, line-fits, line-short, put-turn}
use Rattle.list.proofs.put_entries.Goals as goal

pub loop-k-init : goal.loop-k-init
loop-k-init c =
    let a = c.args in
    let z : a.lines - 0 ≡ a.lines = omega arith in (
      omega arith,
      subst (AllRead a.set.now 0) (sym z) c.requires.all_read,
      refl,
      omega (arith, ap (λ (n : ℕ). length (listed_from a.set.now 0 0 n)) z),
      ap (λ (n : ℕ). over 0 (listed_from a.set.now 0 0 n) a.out.now) z,
    )

pub overflow_add-from : goal.overflow_add-from
overflow_add-from c =
    let l = c.loop-k in
    omega (
      arith,
      all-within c.args.set.now l.at l.k c.args.lines (omega arith) l.invariant.1 _ c.told_length-length.ensures.0,
      c.ranges,
      c.well_formed,
    )

pub overflow_add-from-in-loop-k : goal.overflow_add-from-in-loop-k
overflow_add-from-in-loop-k c =
    let l = c.loop-k in
    omega (
      arith,
      all-within c.args.set.now l.at l.k c.args.lines (omega arith) l.invariant.1 _ c.told_length-length.ensures.0,
      c.ranges,
      c.well_formed,
    )

pub slice_bounds-put_listed-count : goal.slice_bounds-put_listed-count
slice_bounds-put_listed-count c =
    let l = c.loop-k in
    omega (
      arith,
      all-within c.args.set.now l.at l.k c.args.lines (omega arith) l.invariant.1 _ c.told_length-length.ensures.0,
      c.ranges,
      c.well_formed,
    )

pub slice_bounds-put_listed-start : goal.slice_bounds-put_listed-start
slice_bounds-put_listed-start c =
    let l = c.loop-k in
    omega (
      arith,
      all-within c.args.set.now l.at l.k c.args.lines (omega arith) l.invariant.1 _ c.told_length-length.ensures.0,
      c.ranges,
      c.well_formed,
    )

pub slice_bounds-put_listed-end : goal.slice_bounds-put_listed-end
slice_bounds-put_listed-end c =
    let l = c.loop-k in
    omega (
      arith,
      all-within c.args.set.now l.at l.k c.args.lines (omega arith) l.invariant.1 _ c.told_length-length.ensures.0,
      c.ranges,
      c.well_formed,
    )

pub put_listed-to-requires : goal.put_listed-to-requires
put_listed-to-requires c =
    let a = c.args in
    let l = c.loop-k in
    let t = all_told a.set.now l.at l.k a.lines (omega arith) l.invariant.1 _ _ c.told_length-length.ensures.0
    c.told_label-label.ensures in (
      omega (arith, (read_back a.set.now l.at t.0).label-fits),
      line-short a.set.now l.at l.k a.lines (omega arith) t.0 _ (content-length l.at _) l.out l.to l.invariant.3,
      line-fits a.set.now l.at l.k a.lines (omega arith) t.0 _ (content-length l.at _) l.out l.to l.invariant.3,
    )

pub overflow_add-at-in-loop-k : goal.overflow_add-at-in-loop-k
overflow_add-at-in-loop-k c =
    let l = c.loop-k in
    omega (
      arith,
      all-within c.args.set.now l.at l.k c.args.lines (omega arith) l.invariant.1 _ c.told_length-length.ensures.0,
      c.ranges,
      c.well_formed,
    )

pub loop-k-preserved : goal.loop-k-preserved
loop-k-preserved c =
    let a = c.args in
    let l = c.loop-k in
    let t = all_told a.set.now l.at l.k a.lines (omega arith) l.invariant.1 _ _ c.told_length-length.ensures.0
    c.told_label-label.ensures in
    let u = put-turn a.set.now l.at l.k a.lines (omega arith) t.0 _ (content-length l.at _) l.out l.to l.invariant.3 _ _
    c.put_listed-to.ensures.0 c.put_listed-to.ensures.1 in
    ((read_back a.set.now l.at t.0).within, t.1, u.same-room ∙ l.invariant.2, u.has_room, u.same ∙ l.invariant.4)

pub shape_of-out : goal.shape_of-out
shape_of-out c = c.loop-k.invariant.2

pub returns : goal.returns
returns c =
    let a = c.args in
    let l = c.loop-k in
    over_none l.out l.to ∙ (ap (λ (u : List ℕ). over l.to u l.out) (sym (entries-end a.set.now l.at l.k a.lines (omega arith))) ∙ l.invariant.4)
