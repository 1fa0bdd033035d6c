-- `shown_under`: the part of the set if the sheet is empty; else what the sheet shows, and the part of the set if it shows none.
use mathlib.Core.Path.{sym, ap, ◌∙◌}
use native.Mathlib.Omega.{arith}
use borrow.Author.Tests.{eqb-true}
use Rattle.line_roll.proofs.RollLaws.{judged-lined}
use Rattle.view_sheet.proofs.SheetWalkLaws.{under-empty, under-by}
use Rattle.view_sheet.proofs.shown_under.Goals as goal
use Rattle.meaning.specs.Results.{of_set}
use Rattle.meaning.specs.declared.Shown.TheVariants.{Set}
use Rattle.std.specs.Prelude.{Ok}
use Rattle.meaning.proofs.ResultLaws.{handed-on}

pub returns-then-is_empty : goal.returns-then-is_empty
returns-then-is_empty c = ap of_set c.part_of_set.ensures ∙ under-empty _ _ _ _ (omega (arith, eqb-true _ 0 (sym c.is_empty.ensures ∙ c.if-is_empty.true)))

pub shown_by_sheet-requires : goal.shown_by_sheet-requires
shown_by_sheet-requires c =
    rw c.terms_of-terms.ensures (judged-lined c.args.set.now c.args.shape c.requires.accepted)

pub returns-in_err-shown : goal.returns-in_err-shown
returns-in_err-shown c =
    handed-on _ c.from_residual.ensures.1 ∙ under-by _ _ _ _ _ c.terms_of-terms.ensures _ (sym c.shown_by_sheet.ensures ∙ c.in_err-shown.was)

pub returns-in-Sheet : goal.returns-in-Sheet
returns-in-Sheet c =
    under-by _ _ _ _ _ c.terms_of-terms.ensures _ (sym c.shown_by_sheet.ensures ∙ (c.in_ok-shown.was ∙ ap Ok c.in-Sheet.is))

pub returns-in-Set : goal.returns-in-Set
returns-in-Set c =
    let e = sym c.shown_by_sheet.ensures ∙ (c.in_ok-shown.was ∙ ap Ok c.in-Set.is) in
    ap of_set c.part_of_set-in-Set.ensures ∙ under-by _ _ _ _ _ c.terms_of-terms.ensures _ e
