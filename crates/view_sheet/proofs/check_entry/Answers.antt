-- `check_entry`: 21 and 19 by the head alone, else by the label of its line, which the roll has once it is read so far.
use mathlib.Core.Path.{refl, sym, ◌∙◌}
use native.Mathlib.Omega.{arith}
use Rattle.entry_read.proofs.HeadLaws.{whole_back}
use Rattle.line_roll.proofs.RollLaws.{fewer-lined}
use Rattle.view_sheet.proofs.SheetWalkLaws.{roll-line, sheet-cut, sheet-zero, sheet-beyond, sheet-there}
use Rattle.view_sheet.proofs.check_entry.Goals as goal

pub returns-then-named-lt1 : goal.returns-then-named-lt1
returns-then-named-lt1 c =
    let e = sym c.entry_at.ensures ∙ c.in-Some.is in
    (c.bad_entry-then-named-lt1.ensures ∙ sheet-zero _ _ _ _ _ _ e c.if-named-lt1.true, refl)

pub returns-then-terms-named : goal.returns-then-terms-named
returns-then-terms-named c =
    let e = sym c.entry_at.ensures ∙ c.in-Some.is in
    (c.bad_entry-then-terms-named.ensures ∙ sheet-beyond _ _ _ _ _ _ e c.if-terms-named.true, refl)

pub read_to-requires : goal.read_to-requires
read_to-requires c =
    (omega arith, (fewer-lined _ _ _ c.requires.lined c.if-terms-named.false, omega (arith, c.requires.room, c.if-terms-named.false)))

pub label_of-requires : goal.label_of-requires
label_of-requires c = (omega arith, (c.if-named-lt1.false, omega (arith, c.requires.room, c.if-terms-named.false)))

pub judge_entry-requires : goal.judge_entry-requires
judge_entry-requires c =
    let e = sym c.entry_at.ensures ∙ c.in-Some.is in
    (whole_back c.args.sheet.now c.args.at e).within

pub returns-in-None : goal.returns-in-None
returns-in-None c = (c.bad_entry.ensures ∙ sheet-cut _ _ _ _ (sym c.entry_at.ensures ∙ c.in-None.is), refl)

pub returns-else-terms-named : goal.returns-else-terms-named
returns-else-terms-named c =
    let e = sym c.entry_at.ensures ∙ c.in-Some.is in
    let r = c.read_to.ensures in
    let l = c.label_of.ensures.1 r.1 ∙ (rw r.0 (roll-line _ _ c.requires.lined _ c.if-named-lt1.false c.if-terms-named.false)) in
    (c.judge_entry.ensures ∙ sheet-there _ _ _ _ _ _ e c.if-named-lt1.false c.if-terms-named.false _ l, r.0)
