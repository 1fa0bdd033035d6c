use mathlib.Core.Path.{refl, sym, ◌∙◌}
use native.Mathlib.Omega.{arith}
use Rattle.cable_data.proofs.CarriedLaws.{ahead-first, line-within, place_here, place-later, ahead-next}
use Rattle.cable_data.proofs.place_of.Goals as goal

pub loop-left-init : goal.loop-left-init
loop-left-init c = (ahead-first _ _ c.requires, refl)

pub overflow_add-result : goal.overflow_add-result
overflow_add-result c =
    let s = c.args.set.now in
    let l = c.loop-left in
    let q = c.told_length-line.ensures.0 in
    omega (arith, line-within s l.at l.left l.invariant.0 _ q, c.if-left-line.true, c.ranges, c.well_formed)

pub returns-then-left-line : goal.returns-then-left-line
returns-then-left-line c =
    let s = c.args.set.now in
    let l = c.loop-left in
    let q = c.told_length-line.ensures.0 in
    sym (place_here s l.at l.left l.invariant.0 _ q c.if-left-line.true) ∙ l.invariant.1

pub overflow_add-at-in-loop-left : goal.overflow_add-at-in-loop-left
overflow_add-at-in-loop-left c =
    let s = c.args.set.now in
    let l = c.loop-left in
    let q = c.told_length-line.ensures.0 in
    omega (arith, line-within s l.at l.left l.invariant.0 _ q, c.ranges, c.well_formed)

pub loop-left-preserved : goal.loop-left-preserved
loop-left-preserved c =
    let s = c.args.set.now in
    let l = c.loop-left in
    let q = c.told_length-line.ensures.0 in (
      ahead-next s l.at l.left l.invariant.0 _ q (omega (arith, c.if-left-line.false)),
      sym (place-later s l.at l.left l.invariant.0 _ q (omega (arith, c.if-left-line.false))) ∙ l.invariant.1,
    )
