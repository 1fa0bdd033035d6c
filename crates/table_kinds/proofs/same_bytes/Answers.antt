use mathlib.Core.Path.{sym, ◌∙◌}
use native.Mathlib.Omega.{arith}
use Rattle.table_kinds.proofs.FittingLaws.{same-lengths, same_more, same_stop, same_end}
use Rattle.table_kinds.proofs.same_bytes.Goals as goal

pub returns-then-c-d : goal.returns-then-c-d
returns-then-c-d c = sym (same-lengths _ _ c.if-c-d.true)

pub returns-then-c-i : goal.returns-then-c-i
returns-then-c-i c =
    let l = c.loop-i in
    sym (same_stop _ _ l.i (omega arith) (omega arith) c.if-c-i.true) ∙ l.invariant

pub loop-i-preserved : goal.loop-i-preserved
loop-i-preserved c =
    let l = c.loop-i in
    sym (same_more _ _ l.i (omega arith) (omega arith) c.if-c-i.false) ∙ l.invariant

pub returns : goal.returns
returns c =
    let l = c.loop-i in
    sym (same_end _ _ l.i (omega arith) (omega arith)) ∙ l.invariant
