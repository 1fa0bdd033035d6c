use mathlib.Core.Path.{◌≡◌, refl, ◌∙◌}
use Prim.Native.Nat.{◌+◌, ◌-◌}
use native.Mathlib.Omega.{arith}
use Rattle.line_read.proofs.ToldLaws.{told-there}
use Rattle.correct_offer.specs.Offered.{line_after}
use Rattle.correct_offer.proofs.OfferWalkLaws.{line-lost, line-next, line-here}
use Rattle.correct_offer.proofs.line_after.Goals as goal

pub loop-init : goal.loop-init
unfolding line_after
loop-init c = let z : c.args.before - 0 ≡ c.args.before = omega arith in rw z refl

pub returns-then-length-eq0 : goal.returns-then-length-eq0
returns-then-length-eq0 c =
    let l = c.loop in
    c.no_line.ensures ∙ (line-lost _ _ (c.args.before - l.counter) _ c.told_length-length.ensures.0 (omega arith) c.if-length-eq0.true ∙ l.invariant)

pub overflow_add-at-in-loop : goal.overflow_add-at-in-loop
overflow_add-at-in-loop c =
    omega (
      arith,
      told-there c.args.set.now c.loop.at _ c.told_length-length.ensures.0 c.if-length-eq0.false,
      c.told_length-length.ensures.1,
      c.ranges,
      c.well_formed,
    )

pub loop-preserved : goal.loop-preserved
loop-preserved c =
    let l = c.loop in
    let one : c.args.before - l.counter - 1 ≡ c.args.before - (l.counter + 1) = omega arith in
    rw one at (line-next _ _ (c.args.before - l.counter) _ c.told_length-length.ensures.0 (omega arith) c.if-length-eq0.false) ∙ l.invariant

pub returns : goal.returns
returns c =
    let l = c.loop in
    line-here _ _ (c.args.before - l.counter) _ c.told_length-size.ensures.0 (omega arith) _ c.told_label-label.ensures ∙ l.invariant
