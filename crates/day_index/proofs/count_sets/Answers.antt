use mathlib.Core.Path.{sym, ap, ◌∙◌}
use Prim.Native.Nat.{◌-◌, ◌<◌}
use native.Mathlib.Omega.{arith}
use Rattle.meaning.proofs.ResultLaws.{handed-on}
use Rattle.meaning_day.specs.Days.{max_sets, sets_from}
use Rattle.day_index.proofs.CountLaws.{set_here, count-end, count-refused, count-full, count_turn, counted-all}
use Rattle.day_index.proofs.count_sets.Goals as goal
use Rattle.std.specs.Prelude.{Err}

pub loop-at-init : goal.loop-at-init
loop-at-init c = (omega arith, omega arith, counted-all (sets_from max_sets 0 c.args.file.now))

pub returns-in_err-shape : goal.returns-in_err-shape
returns-in_err-shape c =
    let a = c.args in
    let l = c.loop-at in
    handed-on _ c.from_residual.ensures.1
    ∙ (sym (count-refused a.file.now l.at (max_sets - l.count) l.count _ c.loop-at-test.true (sym c.judge_at.ensures ∙ c.in_err-shape.was)) ∙ l.invariant.2)

pub returns-then-count-eq-SETS : goal.returns-then-count-eq-SETS
returns-then-count-eq-SETS c =
    let a = c.args in
    let l = c.loop-at in
    let s = set_here a.file.now l.at l.invariant.1 _ (sym c.judge_at.ensures ∙ c.in_ok-shape.was) in
    ap Err c.at.ensures
    ∙ sym (count-full a.file.now l.at _ s (max_sets - l.count) l.count (omega (arith, c.if-count-eq-SETS.true))) ∙ l.invariant.2

pub overflow_add-at : goal.overflow_add-at
overflow_add-at c =
    let a = c.args in
    let s = set_here a.file.now c.loop-at.at c.loop-at.invariant.1 _ (sym c.judge_at.ensures ∙ c.in_ok-shape.was) in
    omega (arith, s.within, c.well_formed)

pub loop-at-smaller : goal.loop-at-smaller
loop-at-smaller c =
    let a = c.args in
    let s = set_here a.file.now c.loop-at.at c.loop-at.invariant.1 _ (sym c.judge_at.ensures ∙ c.in_ok-shape.was) in
    omega (arith, s.within, s.some_bytes)

pub loop-at-preserved : goal.loop-at-preserved
loop-at-preserved c =
    let a = c.args in
    let l = c.loop-at in
    let s = set_here a.file.now l.at l.invariant.1 _ (sym c.judge_at.ensures ∙ c.in_ok-shape.was) in
    let h : l.count < max_sets = omega (arith, c.if-count-eq-SETS.false, l.invariant.0) in
    (omega arith, s.within, count_turn a.file.now l.at _ s l.count h ∙ l.invariant.2)

pub returns : goal.returns
returns c =
    let a = c.args in
    let l = c.loop-at in
    sym (count-end a.file.now l.at (max_sets - l.count) l.count c.loop-at-test.false) ∙ l.invariant.2
