use mathlib.Core.Path.{refl, sym, ◌∙◌}
use native.Mathlib.Omega.{arith}
use Rattle.entry_read.proofs.HeadLaws.{whole_back}
use Rattle.write_seven.proofs.ListSevenLaws.{seven-cut, seven-here, seven-later}
use Rattle.write_seven.proofs.list_says_seven.Goals as goal

pub loop-label-init : goal.loop-label-init
loop-label-init c = (omega arith, refl)

pub returns : goal.returns
returns c =
    seven-cut _ _ (sym c.entry_at.ensures ∙ c.in_default.is) ∙ c.loop-label.invariant.1

pub is_one-requires : goal.is_one-requires
is_one-requires c =
    (whole_back _ _ (sym c.entry_at.ensures ∙ c.in-Some.is)).within

pub returns-then-label-eq-LABEL_9206 : goal.returns-then-label-eq-LABEL_9206
returns-then-label-eq-LABEL_9206 c =
    c.is_one.ensures ∙ (seven-here _ _ (sym c.entry_at.ensures ∙ c.in-Some.is) c.if-label-eq-LABEL_9206.true ∙ c.loop-label.invariant.1)

pub overflow_add-at : goal.overflow_add-at
overflow_add-at c =
    omega (arith, (whole_back _ _ (sym c.entry_at.ensures ∙ c.in-Some.is)).within, c.well_formed)

pub overflow_add-at-in-Some : goal.overflow_add-at-in-Some
overflow_add-at-in-Some c =
    omega (arith, (whole_back _ _ (sym c.entry_at.ensures ∙ c.in-Some.is)).within, c.well_formed)

pub loop-label-smaller : goal.loop-label-smaller
loop-label-smaller c =
    omega (arith, (whole_back _ _ (sym c.entry_at.ensures ∙ c.in-Some.is)).within)

pub loop-label-preserved : goal.loop-label-preserved
loop-label-preserved c =
    let whole = sym c.entry_at.ensures ∙ c.in-Some.is in
    ((whole_back _ _ whole).within, seven-later _ _ whole c.if-label-eq-LABEL_9206.false ∙ c.loop-label.invariant.1)
