use mathlib.Core.Path.{◌≡◌, refl, sym, ap, ◌∙◌}
use Prim.Native.Nat.{◌+◌, ◌-◌, ◌<◌}
use lib.ListN.{length}
use native.Mathlib.Omega.{arith}
use Rattle.meaning.proofs.ResultLaws.{handed-on}
use Rattle.meaning.specs.Limits.{max_entries}
use Rattle.meaning.specs.Entries.{entry_lead}
use Rattle.write_judge.proofs.CheckLaws.{checked-within, some-bad, some-done, some-full, some-on}
use Rattle.write_judge.proofs.check_list.Goals as goal
use Rattle.std.specs.Prelude.{Err, Ok}

pub loop-before-init : goal.loop-before-init
loop-before-init c = (λ h. refl, λ h. absurd (omega arith))

pub returns-in_err-length : goal.returns-in_err-length
returns-in_err-length c =
    let l = c.loop-before in
    handed-on _ c.from_residual.ensures.1 ∙ (sym (some-bad c.args.list.now l.at (max_entries - l.before) (sym c.check_entry.ensures ∙ c.in_err-length.was)) ∙ l.invariant.0 c.loop-before-test.true)

pub overflow_add-at : goal.overflow_add-at
overflow_add-at c =
    omega (arith, checked-within c.args.list.now c.loop-before.at (sym c.check_entry.ensures ∙ c.in_ok-length.was), c.well_formed)

pub overflow_add-at-in-loop-before : goal.overflow_add-at-in-loop-before
overflow_add-at-in-loop-before c =
    omega (arith, checked-within c.args.list.now c.loop-before.at (sym c.check_entry.ensures ∙ c.in_ok-length.was), c.well_formed)

pub returns-then-at-list : goal.returns-then-at-list
returns-then-at-list c =
    let l = c.loop-before in
    let n : l.before + 1 ≡ max_entries - ((max_entries - l.before) - 1) = omega (arith, c.loop-before-test.true) in
    ap Ok n
    ∙ (sym (some-done c.args.list.now l.at (max_entries - l.before) (sym c.check_entry.ensures ∙ c.in_ok-length.was) (omega (arith, c.if-at-list.true)))
    ∙ l.invariant.0 c.loop-before-test.true)

pub loop-before-preserved : goal.loop-before-preserved
loop-before-preserved c =
    let l = c.loop-before in
    let read = sym c.check_entry.ensures ∙ c.in_ok-length.was in
    let more : l.at + (entry_lead + c.in_ok-length.length) < length c.args.list.now = omega (arith, c.if-at-list.false, checked-within c.args.list.now l.at read) in
    let n : max_entries - (l.before + 1) ≡ (max_entries - l.before) - 1 = omega arith in (
      λ h. rw n (sym (some-on c.args.list.now l.at (max_entries - l.before) read more (omega arith) (omega arith)) ∙ l.invariant.0 c.loop-before-test.true),
      λ h. sym (some-full c.args.list.now l.at (max_entries - l.before) read more (omega arith)) ∙ l.invariant.0 c.loop-before-test.true,
    )

pub returns : goal.returns
returns c = ap Err c.at.ensures ∙ c.loop-before.invariant.1 c.loop-before-test.false
