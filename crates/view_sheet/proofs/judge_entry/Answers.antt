-- `judge_entry`: the content can be lent; each return by the law of what speaks against it.
use mathlib.Core.Path.{sym, ◌∙◌}
use native.Mathlib.Omega.{arith}
use Rattle.view_sheet.proofs.SheetWalkLaws.{content-ends, byte-within, entry-good, entry-byte, entry-bad}
use Rattle.view_sheet.proofs.judge_entry.Goals as goal

pub overflow_add-end : goal.overflow_add-end
overflow_add-end c =
    let a = c.args in
    omega (arith, content-ends a.at a.bytes _ c.content_part-part.ensures, c.requires, c.ranges, c.well_formed)

pub slice_bounds-content-end : goal.slice_bounds-content-end
slice_bounds-content-end c =
    let a = c.args in
    omega (arith, content-ends a.at a.bytes _ c.content_part-part.ensures, c.requires)

pub overflow_add-start : goal.overflow_add-start
overflow_add-start c =
    let a = c.args in
    let e = sym c.in-Some.is ∙ c.judge_content.ensures in
    let b = sym c.tells_byte.ensures ∙ c.if-tells_byte.true in
    let i = byte-within a.at a.bytes _ c.content_part-part.ensures a.sheet.now a.named a.label a.seven _ e _ c.refusal-told.ensures b in
    omega (arith, i, c.requires, c.ranges, c.well_formed)

pub returns-in-None : goal.returns-in-None
returns-in-None c =
    entry-good _ _ _ c.content_part-part.ensures _ _ _ _ (sym c.in-None.is ∙ c.judge_content.ensures)

pub returns-then-tells_byte : goal.returns-then-tells_byte
returns-then-tells_byte c =
    let e = sym c.in-Some.is ∙ c.judge_content.ensures in
    let b = sym c.tells_byte.ensures ∙ c.if-tells_byte.true in
    c.bad_entry.ensures ∙ entry-byte _ _ _ c.content_part-part.ensures _ _ _ _ _ e _ c.refusal-told.ensures b

pub returns-else-tells_byte : goal.returns-else-tells_byte
returns-else-tells_byte c =
    let e = sym c.in-Some.is ∙ c.judge_content.ensures in
    let b = sym c.tells_byte.ensures ∙ c.if-tells_byte.false in
    c.bad_entry-in-Some.ensures ∙ entry-bad _ _ _ c.content_part-part.ensures _ _ _ _ _ e _ c.refusal-told.ensures b
