use mathlib.Core.Path.{sym, ◌∙◌}
use native.Mathlib.Omega.{arith}
use Rattle.meaning.proofs.Bools.{and_left, and_right}
use Rattle.byte_low.proofs.SeekLaws.{seek-step, seek-done}
use Rattle.byte_low.proofs.all_pass.Goals as goal

pub loop-i-preserved : goal.loop-i-preserved
loop-i-preserved g c = λ h.
    let l = c.loop-i in
    sym (seek-step (g.T.ByteTest.passes c.args.test) _ _ l.i _ (omega arith) (sym c.passes-fit.ensures ∙ and_right l.fit _ h)) ∙ l.invariant (and_left l.fit _ h)

pub returns : goal.returns
returns g c = λ e.
    let l = c.loop-i in
    sym (l.invariant e) ∙ seek-done (g.T.ByteTest.passes c.args.test) _ _ l.i _ (omega arith) ∙ omega arith
