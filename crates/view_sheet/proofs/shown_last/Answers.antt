-- `shown_last`: the entry lies within the sheet, and its head says its length.
use mathlib.Core.Path.{ap, ◌∙◌}
use native.Mathlib.Omega.{arith}
use Rattle.view_sheet.proofs.SheetWalkLaws.{last_within, shown-there, shown-none}
use Rattle.view_sheet.proofs.shown_last.Goals as goal
use Rattle.meaning.specs.Results.{of_sheet}
use Rattle.meaning.specs.declared.Shown.TheVariants.{Sheet}
use Rattle.std.specs.Prelude.{Ok}

pub told_length-bytes-requires : goal.told_length-bytes-requires
told_length-bytes-requires c =
    let a = c.args in
    omega (arith, last_within a.sheet.now a.last c.requires c.if-last-sheet.true)

pub content_part-requires : goal.content_part-requires
content_part-requires c =
    let a = c.args in
    omega (arith, last_within a.sheet.now a.last c.requires c.if-last-sheet.true, c.told_length-bytes.ensures)

pub returns-then-last-sheet : goal.returns-then-last-sheet
returns-then-last-sheet c =
    ap of_sheet c.content_part.ensures ∙ shown-there _ _ _ c.if-last-sheet.true c.told_length-bytes.ensures

pub returns : goal.returns
returns c = shown-none _ _ c.if-last-sheet.false
