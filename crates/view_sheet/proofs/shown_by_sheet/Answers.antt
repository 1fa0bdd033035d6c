use mathlib.Core.Path.{sym, ap, ◌∙◌}
use Prim.Native.Nat.{pred}
use native.Mathlib.Omega.{arith}
use lib.ListN.{length}
use Rattle.meaning.proofs.ResultLaws.{handed-on}
use Rattle.view_sheet.specs.Showing.{shown_from, shown_by_sheet}
use Rattle.view_sheet.proofs.SheetWalkLaws.{sheet-within, shown-end, shown-bad, shown-next, last_none, shown-none, later-within, later-shown}
use Rattle.view_sheet.proofs.shown_by_sheet.Goals as goal

pub loop-at-init : goal.loop-at-init
unfolding shown_by_sheet
loop-at-init c =
    let a = c.args in (
      omega arith,
      length a.sheet.now,
      omega arith,
      ap (shown_from a.set.now a.terms a.sheet.now a.line (length a.sheet.now) 0) (sym (shown-none a.sheet.now (length a.sheet.now) (omega arith))),
      c.of-roll.ensures.0,
      last_none a.sheet.now,
    )

pub check_entry-requires : goal.check_entry-requires
check_entry-requires c =
    let l = c.loop-at in
    let a = c.args in
    record { lined = rw l.invariant.4 c.requires.0; room = c.requires.1 }

pub returns-in_err-entry : goal.returns-in_err-entry
returns-in_err-entry c =
    let l = c.loop-at in
    let e = rw l.invariant.4 at (sym c.check_entry.ensures.0) ∙ c.in_err-entry.was in
    handed-on _ c.from_residual.ensures.1 ∙ (shown-bad _ _ _ _ l.invariant.1 l.at _ c.loop-at-test.true l.invariant.2 _ e ∙ l.invariant.3)

pub overflow_add-at : goal.overflow_add-at
overflow_add-at c =
    let l = c.loop-at in
    let a = c.args in
    let e = rw l.invariant.4 at (sym c.check_entry.ensures.0) ∙ c.in_ok-entry.was in
    let w = sheet-within a.set.now a.terms a.sheet.now l.at _ _ e in
    omega (arith, w, c.ranges, c.well_formed)

pub overflow_add-at-in-loop-at : goal.overflow_add-at-in-loop-at
overflow_add-at-in-loop-at c =
    let l = c.loop-at in
    let a = c.args in
    let e = rw l.invariant.4 at (sym c.check_entry.ensures.0) ∙ c.in_ok-entry.was in
    let w = sheet-within a.set.now a.terms a.sheet.now l.at _ _ e in
    omega (arith, w, c.ranges, c.well_formed)

pub loop-at-smaller : goal.loop-at-smaller
loop-at-smaller c =
    let l = c.loop-at in
    let a = c.args in
    let e = rw l.invariant.4 at (sym c.check_entry.ensures.0) ∙ c.in_ok-entry.was in
    let w = sheet-within a.set.now a.terms a.sheet.now l.at _ _ e in
    omega (arith, w, c.loop-at-test.true)

pub loop-at-preserved : goal.loop-at-preserved
loop-at-preserved c =
    let l = c.loop-at in
    let a = c.args in
    let e = rw l.invariant.4 at (sym c.check_entry.ensures.0) ∙ c.in_ok-entry.was in
    let w = sheet-within a.set.now a.terms a.sheet.now l.at _ _ e in
    let q = c.later_entry-last.ensures in
    let t = c.loop-at-test.true in (
      omega (arith, w),
      pred l.invariant.1,
      omega (arith, w, l.invariant.2, t),
      shown-next _ _ _ _ l.invariant.1 l.at _ t l.invariant.2 _ _ e _ (later-shown _ _ _ _ _ _ e l.last _ _ q t) ∙ l.invariant.3,
      c.check_entry.ensures.1 ∙ l.invariant.4,
      later-within _ _ _ _ _ _ e l.last _ _ q l.invariant.5,
    )

pub shown_last-requires : goal.shown_last-requires
shown_last-requires c = c.loop-at.invariant.5

pub returns : goal.returns
returns c =
    let l = c.loop-at in
    c.shown_last.ensures ∙ shown-end _ _ _ _ l.invariant.1 l.at _ c.loop-at-test.false ∙ l.invariant.3
