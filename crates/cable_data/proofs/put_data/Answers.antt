use mathlib.Core.Path.{◌≡◌, refl, sym, ap, ap₂, ◌∙◌}
use Prim.Native.Nat.{ℕ, ◌+◌, ◌-◌}
use native.Mathlib.Omega.{arith}
use lib.ListN.{length-set}
use Rattle.byte_put.specs.Places.{over}
use Rattle.cable_data.specs.Carried.{data_from, place_after}
use Rattle.cable_data.proofs.CarriedLaws.{place-on, data-turn, place-turn, data-none}
use Rattle.cable_data.proofs.put_data.Goals as goal

pub loop-i-init : goal.loop-i-init
loop-i-init c =
    let a = c.args in
    let z : a.n - 0 ≡ a.n = omega arith in
    let t : a.to + 0 ≡ a.to = omega arith in (
      omega arith,
      refl,
      omega (arith, ap (place_after a.set.now a.from) z, c.requires.0),
      ap₂ (λ (k m : ℕ). over k (data_from a.set.now a.from m) a.out.now) t z,
    )

pub bounds-set-at : goal.bounds-set-at
bounds-set-at c =
    let a = c.args in
    let l = c.loop-i in
    omega (arith, place-on a.set.now l.at (a.n - l.i), l.invariant.2, c.loop-i-test.true)

pub overflow_add-at : goal.overflow_add-at
overflow_add-at c =
    let a = c.args in
    let l = c.loop-i in
    let h = c.loop-i-test.true in
    let p = place-turn a.set.now l.at l.i a.n _ h c.width-at.ensures in
    omega (arith, p, place-on a.set.now (l.at + c.width-at.result) (a.n - (l.i + 1)), l.invariant.2, c.ranges, c.well_formed)

pub loop-i-preserved : goal.loop-i-preserved
loop-i-preserved c =
    let a = c.args in
    let l = c.loop-i in
    let h = c.loop-i-test.true in
    let p = place-turn a.set.now l.at l.i a.n _ h c.width-at.ensures in (
      omega arith,
      length-set l.out (a.to + l.i) c.carried.result ∙ l.invariant.1,
      omega (arith, p, l.invariant.2),
      data-turn a.set.now l.out l.at l.i a.n a.to _ _ h (omega (arith, l.invariant.1, c.requires.1)) c.carried.ensures c.width-at.ensures ∙ l.invariant.3,
    )

pub returns : goal.returns
returns c =
    let a = c.args in
    let l = c.loop-i in
    sym (data-none a.set.now l.out l.at l.i a.n (a.to + l.i) (omega (arith, c.loop-i-test.false))) ∙ l.invariant.3
