use mathlib.Core.Path.{refl, sym, ◌∙◌}
use native.Mathlib.Omega.{arith}
use lib.Dec.{leb}
use Rattle.meaning.specs.Lines.{least_byte}
use Rattle.byte_low.proofs.SeekLaws.{seek-on, seek-tail}
use Rattle.byte_low.proofs.clean_content.Goals as goal

pub returns-then-end-from : goal.returns-then-end-from
returns-then-end-from c = λ e. seek-tail (leb least_byte) _ _ _ _ (omega arith) (omega arith) (omega arith) (c.all_pass.ensures e)

pub loop-i-init : goal.loop-i-init
loop-i-init c = (omega arith, omega arith, refl)

pub loop-i-preserved : goal.loop-i-preserved
loop-i-preserved c =
    let l = c.loop-i in
    (omega arith, omega arith, sym (seek-on (leb least_byte) _ _ l.i _ (omega arith) (c.all_pass-in-loop-i.ensures c.if-all_pass.true)) ∙ l.invariant.2)

pub loop-i-2-init : goal.loop-i-2-init
loop-i-2-init c = c.loop-i.invariant

pub loop-i-2-preserved : goal.loop-i-2-preserved
loop-i-2-preserved c =
    let l = c.loop-i-2 in
    (omega arith, omega arith, sym (seek-on (leb least_byte) _ _ l.i _ (omega arith) (c.all_pass-in-loop-i-2.ensures c.if-all_pass-2.true)) ∙ l.invariant.2)

pub returns : goal.returns
returns c = λ e. sym c.loop-i-2.invariant.2 ∙ seek-tail (leb least_byte) _ _ _ _ (omega arith) (omega arith) (omega arith) (c.all_pass-2.ensures e)
