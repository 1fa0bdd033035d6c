use mathlib.Core.Path.{◌≡◌, sym, ◌∙◌}
use Prim.Native.Nat.{◌+◌}
use native.Mathlib.Omega.{arith}
use Rattle.byte_low.proofs.SeekLaws.{seek-here, seek-further, seek-end}
use Rattle.byte_low.proofs.seek.Goals as goal

pub returns-then-not-passes : goal.returns-then-not-passes
returns-then-not-passes g c =
    let l = c.loop-i in
    sym (seek-here (g.T.ByteTest.passes c.args.test) _ l.i _ (omega arith) (sym c.if-not-passes.ensures)) ∙ l.invariant

pub loop-i-preserved : goal.loop-i-preserved
loop-i-preserved g c =
    let l = c.loop-i in
    sym (seek-further (g.T.ByteTest.passes c.args.test) _ l.i _ (omega arith) (sym c.if-not-passes.ensures)) ∙ l.invariant

pub returns : goal.returns
returns g c =
    let a = c.args in
    let l = c.loop-i in
    let e : a.at + a.k ≡ l.i = omega arith in
    e ∙ (sym (seek-end (g.T.ByteTest.passes a.test) a.s.now l.i (a.at + a.k) (omega arith)) ∙ l.invariant)
