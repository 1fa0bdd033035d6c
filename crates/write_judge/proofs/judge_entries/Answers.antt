-- `judge_entries`: 8, 9, and then the other rules.
use mathlib.Core.Path.{refl, sym, ap, ◌∙◌}
use native.Mathlib.Omega.{arith}
use Rattle.std.proofs.Common.{Some}
use Rattle.write_seven.specs.ListSeven.{if_any}
use Rattle.write_judge.proofs.CheckLaws.{told-head, told-later, told-within, head-there}
use Rattle.write_judge.proofs.EntryPass.{first-other, first-unknown, first-known}
use Rattle.write_judge.proofs.judge_entries.Goals as goal

pub told_label-requires : goal.told_label-requires
told_label-requires c = head-there c.args.list.now 0 c.requires.1 c.requires.0

pub returns-then-told_label-ne-LABEL_8000 : goal.returns-then-told_label-ne-LABEL_8000
returns-then-told_label-ne-LABEL_8000 c =
    ap Some c.at.ensures
    ∙ ap if_any (sym (first-other c.args.list.now
    (told-head c.args.list.now 0 c.requires.1 c.requires.0 c.told_label.ensures refl) c.if-told_label-ne-LABEL_8000.true))

pub told_length-end-requires : goal.told_length-end-requires
told_length-end-requires c =
    head-there c.args.list.now 0 c.requires.1 c.requires.0

pub overflow_add-end : goal.overflow_add-end
overflow_add-end c =
    omega (
      arith,
      told-within c.args.list.now 0 c.requires.1 c.requires.0 c.told_label.ensures c.told_length-end.ensures,
      c.well_formed,
    )

pub slice_bounds-type_of-end : goal.slice_bounds-type_of-end
slice_bounds-type_of-end c =
    told-within c.args.list.now 0 c.requires.1 c.requires.0 c.told_label.ensures c.told_length-end.ensures

pub returns-in_default : goal.returns-in_default
returns-in_default c =
    ap Some c.at-in_default.ensures
    ∙ ap if_any (sym (first-unknown c.args.list.now
    (told-head c.args.list.now 0 c.requires.1 c.requires.0 c.told_label.ensures c.told_length-end.ensures)
    c.if-told_label-ne-LABEL_8000.false (sym c.type_of.ensures ∙ c.in_default.is)))

pub pass_entries-requires : goal.pass_entries-requires
pass_entries-requires c =
    told-later c.args.list.now 0 c.requires.1 c.requires.0 c.told_label.ensures c.told_length-end.ensures

pub returns : goal.returns
returns c =
    c.pass_entries.ensures
    ∙ ap if_any (sym (first-known c.args.list.now
    (told-head c.args.list.now 0 c.requires.1 c.requires.0 c.told_label.ensures c.told_length-end.ensures)
    c.if-told_label-ne-LABEL_8000.false (sym c.type_of.ensures ∙ c.in-Some.is)))
