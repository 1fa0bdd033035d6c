use mathlib.Core.Path.{refl, sym, ap, ◌∙◌}
use mathlib.Core.List.{List}
use Prim.Native.Nat.{ℕ}
use native.Mathlib.Omega.{arith}
use native.Mathlib.Nat.{add_assoc, add-sub_cancel_left}
use Rattle.meaning.specs.Digits.{digits}
use Rattle.meaning.specs.Lists.{sum_digits}
use Rattle.entry_read.proofs.HeadLaws.{whole_back}
use Rattle.byte_put.specs.Places.{over}
use Rattle.byte_put.proofs.OverLaws.{over_none}
use Rattle.write.proofs.WriteLaws.{lines_cut, lines_fit, put-turn}
use Rattle.write.proofs.put_set.Goals as goal

pub loop-label-init : goal.loop-label-init
loop-label-init c = (omega arith, refl, omega (arith, c.requires), refl)

pub overflow_add-from : goal.overflow_add-from
overflow_add-from c =
    omega (arith, (whole_back c.args.list.now c.loop-label.at (sym c.entry_at.ensures ∙ c.in-Some.is)).within, c.well_formed)

pub overflow_add-end : goal.overflow_add-end
overflow_add-end c =
    omega (arith, (whole_back c.args.list.now c.loop-label.at (sym c.entry_at.ensures ∙ c.in-Some.is)).within, c.well_formed)

pub slice_bounds-put_lines-count : goal.slice_bounds-put_lines-count
slice_bounds-put_lines-count c =
    omega (arith, (whole_back c.args.list.now c.loop-label.at (sym c.entry_at.ensures ∙ c.in-Some.is)).within, c.well_formed)

pub slice_bounds-put_lines-start : goal.slice_bounds-put_lines-start
slice_bounds-put_lines-start c =
    omega (arith, (whole_back c.args.list.now c.loop-label.at (sym c.entry_at.ensures ∙ c.in-Some.is)).within, c.well_formed)

pub slice_bounds-put_lines-end : goal.slice_bounds-put_lines-end
slice_bounds-put_lines-end c =
    omega (arith, (whole_back c.args.list.now c.loop-label.at (sym c.entry_at.ensures ∙ c.in-Some.is)).within, c.well_formed)

pub put_lines-to-requires : goal.put_lines-to-requires
put_lines-to-requires c =
    let a = c.args in
    let l = c.loop-label in
    lines_fit a.list.now (digits sum_digits a.total) l.at
    (sym c.entry_at.ensures ∙ c.in-Some.is) _ (add-sub_cancel_left _ _) _ (add_assoc l.at _ _) l.out l.to l.invariant.2

pub loop-label-smaller : goal.loop-label-smaller
loop-label-smaller c =
    omega (
      arith,
      (whole_back c.args.list.now c.loop-label.at (sym c.entry_at.ensures ∙ c.in-Some.is)).within,
    )

pub loop-label-preserved : goal.loop-label-preserved
loop-label-preserved c =
    let a = c.args in
    let l = c.loop-label in
    let t = put-turn a.list.now (digits sum_digits a.total) l.at
    (sym c.entry_at.ensures ∙ c.in-Some.is) _ (add-sub_cancel_left _ _) _ (add_assoc l.at _ _) l.out l.to l.invariant.2
    _ _ c.put_lines-to.ensures.0 c.put_lines-to.ensures.1 in (
      omega (arith, (whole_back a.list.now l.at (sym c.entry_at.ensures ∙ c.in-Some.is)).within),
      t.same-room ∙ l.invariant.1,
      t.has_room,
      t.same ∙ l.invariant.3,
    )

pub shape_of-out : goal.shape_of-out
shape_of-out c = c.loop-label.invariant.1

pub returns : goal.returns
returns c =
    let a = c.args in
    let l = c.loop-label in
    over_none l.out l.to
    ∙ (ap (λ (u : List ℕ). over l.to u l.out)
    (sym (lines_cut a.list.now (digits sum_digits a.total) l.at (sym c.entry_at.ensures ∙ c.in_default.is)))
    ∙ l.invariant.3)
