use mathlib.Core.Path.{◌≡◌, refl, sym, ◌∙◌}
use native.Mathlib.Omega.{arith}
use lib.ListN.{length-set}
use Rattle.byte_put.proofs.PutLaws.{digits-none, digit-turn}
use Rattle.byte_put.proofs.put_digits.Goals as goal

pub loop-i-init : goal.loop-i-init
loop-i-init c = (omega arith, (omega arith, (refl, refl)))

pub overflow_mul-s : goal.overflow_mul-s
overflow_mul-s c = omega (arith, c.ranges)

pub loop-i-preserved : goal.loop-i-preserved
loop-i-preserved c =
    let a = c.args in
    let l = c.loop-i in
    (omega arith, (omega arith, (digit-turn l.s a.at l.i l.left (omega arith) (omega arith) ∙ l.invariant.1.1.0, simp length-set l.invariant.1.1.1)))

pub returns : goal.returns
returns c =
    let a = c.args in
    let l = c.loop-i in
    let e : l.i ≡ 0 = omega arith in
    sym (digits-none l.s a.at l.left) ∙ (rw e at l.invariant.1.1.0)
