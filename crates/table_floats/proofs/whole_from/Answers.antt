use mathlib.Core.Path.{sym, ◌∙◌}
use native.Mathlib.Omega.{arith}
use borrow.Author.Tests.{ne_eqb}
use Rattle.table_floats.proofs.FloatLaws.{whole-more, whole-point, whole-stop, whole-end}
use Rattle.table_floats.proofs.whole_from.Goals as goal

pub returns-then-c-i-eq-POINT : goal.returns-then-c-i-eq-POINT
returns-then-c-i-eq-POINT c =
    let l = c.loop-i in
    c.decimals_from.ensures ∙ (sym (whole-point _ l.i (omega arith) c.if-c-i-eq-POINT.true) ∙ l.invariant)

pub returns-else-c-i-eq-POINT : goal.returns-else-c-i-eq-POINT
returns-else-c-i-eq-POINT c =
    let l = c.loop-i in
    ne_eqb _ _ c.if-c-i-eq-POINT.false ∙ (sym (whole-stop _ l.i (omega arith) (sym c.if-not-is_digit.ensures) c.if-c-i-eq-POINT.false) ∙ l.invariant)

pub loop-i-preserved : goal.loop-i-preserved
loop-i-preserved c =
    let l = c.loop-i in
    sym (whole-more _ l.i (omega arith) (sym c.if-not-is_digit.ensures)) ∙ l.invariant

pub returns : goal.returns
returns c =
    let l = c.loop-i in
    sym (whole-end _ l.i (omega arith)) ∙ l.invariant
