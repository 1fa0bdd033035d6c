-- `check_entry`: each return by the law of the test that leads to it.
use mathlib.Core.Path.{sym, ap, ◌∙◌}
use native.Mathlib.Omega.{arith}
use Rattle.entry_read.proofs.HeadLaws.{whole_back}
use Rattle.write_judge.proofs.CheckLaws.{entry-cut, label-over, content-low, content-clean, content-usual}
use Rattle.write_judge.proofs.check_entry.Goals as goal
use Rattle.std.specs.Prelude.{Err}

pub returns-in_default : goal.returns-in_default
returns-in_default c =
    let a = c.args in
    ap Err c.at.ensures ∙ entry-cut a.list.now a.at (sym c.entry_at.ensures ∙ c.in_default.is)

pub returns-then-label-gt-MAX_LABEL : goal.returns-then-label-gt-MAX_LABEL
returns-then-label-gt-MAX_LABEL c =
    let a = c.args in
    ap Err c.at-then-label-gt-MAX_LABEL.ensures ∙ label-over a.list.now a.at (sym c.entry_at.ensures ∙ c.in-Some.is) c.if-label-gt-MAX_LABEL.true

pub overflow_add-content : goal.overflow_add-content
overflow_add-content c =
    let a = c.args in
    omega (arith, (whole_back a.list.now a.at (sym c.entry_at.ensures ∙ c.in-Some.is)).within, c.well_formed)

pub overflow_add-end : goal.overflow_add-end
overflow_add-end c =
    let a = c.args in
    omega (arith, (whole_back a.list.now a.at (sym c.entry_at.ensures ∙ c.in-Some.is)).within, c.well_formed)

pub clean_content-requires : goal.clean_content-requires
clean_content-requires c =
    let a = c.args in
    let w = (whole_back a.list.now a.at (sym c.entry_at.ensures ∙ c.in-Some.is)).within in
    (omega (arith, c.if-length-ge-SHORT.true), omega arith, omega (arith, w))

pub returns-then-clean_content : goal.returns-then-clean_content
returns-then-clean_content c =
    let a = c.args in
    content-usual a.list.now a.at (sym c.entry_at.ensures ∙ c.in-Some.is) c.if-label-gt-MAX_LABEL.false (c.clean_content.ensures c.if-clean_content.true)

pub first_low-low-requires : goal.first_low-low-requires
first_low-low-requires c =
    let a = c.args in
    omega (arith, (whole_back a.list.now a.at (sym c.entry_at.ensures ∙ c.in-Some.is)).within)

pub returns-then-low-end : goal.returns-then-low-end
returns-then-low-end c =
    let a = c.args in
    ap Err c.at-then-low-end.ensures
    ∙ content-low a.list.now a.at (sym c.entry_at.ensures ∙ c.in-Some.is) c.if-label-gt-MAX_LABEL.false _ c.first_low-low.ensures c.if-low-end.true

pub returns : goal.returns
returns c =
    let a = c.args in
    content-clean a.list.now a.at (sym c.entry_at.ensures ∙ c.in-Some.is) c.if-label-gt-MAX_LABEL.false _
    c.first_low-low.ensures c.if-low-end.false
