use mathlib.Core.Path.{refl, sym, ap, ◌∙◌}
use native.Mathlib.Omega.{arith}
use Rattle.entry_read.proofs.HeadLaws.{whole_back}
use Rattle.std.proofs.Common.{Some}
use Rattle.write_seven.specs.ListSeven.{if_any}
use Rattle.write_seven.proofs.ListSevenLaws.{high_cut, high-here, high-later}
use Rattle.write_seven.proofs.high_in_contents.Goals as goal

pub loop-length-init : goal.loop-length-init
loop-length-init c = (omega arith, refl)

pub returns : goal.returns
returns c =
    ap if_any (high_cut _ _ (sym c.entry_at.ensures ∙ c.in_default.is) ∙ c.loop-length.invariant.1)

pub overflow_add-content : goal.overflow_add-content
overflow_add-content c =
    omega (arith, (whole_back _ _ (sym c.entry_at.ensures ∙ c.in-Some.is)).within, c.well_formed)

pub overflow_add-end : goal.overflow_add-end
overflow_add-end c =
    omega (arith, (whole_back _ _ (sym c.entry_at.ensures ∙ c.in-Some.is)).within, c.well_formed)

pub first_high-high-requires : goal.first_high-high-requires
first_high-high-requires c =
    omega (arith, (whole_back _ _ (sym c.entry_at.ensures ∙ c.in-Some.is)).within)

pub returns-then-high-end : goal.returns-then-high-end
returns-then-high-end c =
    let whole = sym c.entry_at.ensures ∙ c.in-Some.is in
    ap Some c.at.ensures ∙ ap if_any (high-here _ _ whole _ c.first_high-high.ensures c.if-high-end.true ∙ c.loop-length.invariant.1)

pub loop-length-smaller : goal.loop-length-smaller
loop-length-smaller c =
    omega (arith, (whole_back _ _ (sym c.entry_at.ensures ∙ c.in-Some.is)).within)

pub loop-length-preserved : goal.loop-length-preserved
loop-length-preserved c =
    let whole = sym c.entry_at.ensures ∙ c.in-Some.is in
    (omega (arith, (whole_back _ _ whole).within), high-later _ _ whole _ c.first_high-high.ensures c.if-high-end.false ∙ c.loop-length.invariant.1)
