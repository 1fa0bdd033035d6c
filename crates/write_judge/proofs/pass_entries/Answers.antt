use mathlib.Core.Path.{refl, sym, ap, ◌∙◌}
use native.Mathlib.Omega.{arith}
use Rattle.judge_missing.specs.Lacks.{flagged_of, told}
use Rattle.write_seven.specs.ListSeven.{if_any}
use Rattle.write_judge.proofs.CheckLaws.{told-head, told-later, told-within, head-there}
use Rattle.write_judge.proofs.EntryPass.{some-refused, starts, step-entry, pass-end, pass-bad, pass_on}
use Rattle.write_judge.proofs.pass_entries.Goals as goal

pub loop-at-init : goal.loop-at-init
loop-at-init c = (c.requires, refl)

pub told_label-label-requires : goal.told_label-label-requires
told_label-label-requires c =
    head-there c.args.list.now c.loop-at.at c.loop-at.invariant.0 c.loop-at-test.true

pub overflow_add-from : goal.overflow_add-from
overflow_add-from c =
    omega (arith, head-there c.args.list.now c.loop-at.at c.loop-at.invariant.0 c.loop-at-test.true, c.well_formed)

pub told_length-requires : goal.told_length-requires
told_length-requires c =
    head-there c.args.list.now c.loop-at.at c.loop-at.invariant.0 c.loop-at-test.true

pub overflow_add-end : goal.overflow_add-end
overflow_add-end c =
    omega (
      arith,
      told-within c.args.list.now c.loop-at.at c.loop-at.invariant.0 c.loop-at-test.true
          c.told_label-label.ensures c.told_length.ensures,
      c.well_formed,
    )

pub step_at-requires : goal.step_at-requires
step_at-requires c = (
  omega arith,
  told-within c.args.list.now c.loop-at.at c.loop-at.invariant.0 c.loop-at-test.true
      c.told_label-label.ensures c.told_length.ensures,
)

pub returns-in-Err : goal.returns-in-Err
returns-in-Err c =
    let a = c.args in
    let l = c.loop-at in
    let step = step-entry a.list.now l.at _ c.in-Err.ensures.step in
    let head = told-head a.list.now l.at l.invariant.0 c.loop-at-test.true c.told_label-label.ensures c.told_length.ensures in
    some-refused step
    ∙ ap if_any (sym (pass-bad a.list.now a.t l.at l.state head step) ∙ (l.invariant.1 ∙ starts a.list.now a.t a.start c.new-state.ensures))

pub loop-at-smaller : goal.loop-at-smaller
loop-at-smaller c =
    omega (
      arith,
      c.loop-at-test.true,
      told-within c.args.list.now c.loop-at.at c.loop-at.invariant.0 c.loop-at-test.true
          c.told_label-label.ensures c.told_length.ensures,
    )

pub loop-at-preserved : goal.loop-at-preserved
loop-at-preserved c =
    let a = c.args in
    let l = c.loop-at in (
      told-later a.list.now l.at l.invariant.0 c.loop-at-test.true c.told_label-label.ensures c.told_length.ensures,
      sym (pass_on a.list.now a.t l.at l.state
          (told-head a.list.now l.at l.invariant.0 c.loop-at-test.true c.told_label-label.ensures c.told_length.ensures)
          (step-entry a.list.now l.at _ c.in_default.ensures.step))
          ∙ l.invariant.1,
    )

pub returns : goal.returns
returns c =
    let a = c.args in
    let l = c.loop-at in
    c.lacks_or_high.ensures
    ∙ ap if_any (sym (pass-end a.list.now a.t l.at (flagged_of l.state) (told l.state.lack) c.loop-at-test.false)
    ∙ (l.invariant.1 ∙ starts a.list.now a.t a.start c.new-state.ensures))
