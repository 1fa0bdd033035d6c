use mathlib.Core.Path.{◌≡◌, sym, ◌∙◌}
use Prim.Native.Nat.{◌+◌, ◌-◌}
use native.Mathlib.Omega.{arith}
use Rattle.meaning.specs.Lines.{line_lead}
use Rattle.meaning.proofs.Bools.{and_left, and_right}
use Rattle.line_read.proofs.LineWalkLaws.{digits-further, digits-done}
use Rattle.line_read.proofs.usual_lead.Goals as goal

pub loop-b-preserved : goal.loop-b-preserved
loop-b-preserved c = λ h.
    let l = c.loop-b in
    digits-further _ l.b-index c.loop-b-test.true (and_right l.fit _ h) ∙ l.invariant (and_left l.fit _ h)

pub returns : goal.returns
returns c = λ e.
    let l = c.loop-b in
    let n : c.args.at + line_lead - c.args.at ≡ line_lead = omega arith in
    rw n at (sym (l.invariant e) ∙ sym (digits-done _ l.b-index c.loop-b-test.false))
