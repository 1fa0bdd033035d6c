-- `form_ok`: each return by the test that decides.
use mathlib.Core.Path.{sym, ap, ◌∙◌}
use Rattle.meaning_cable.specs.Stream.{all_data}
use Rattle.cable_form.proofs.FormLaws.{form-short, form-long, head-bad, data-bad, end-left, data-part}
use Rattle.cable_form.proofs.form_ok.Goals as goal

pub returns-then-block-lt-MIN_BLOCK : goal.returns-then-block-lt-MIN_BLOCK
returns-then-block-lt-MIN_BLOCK c =
    sym (form-short c.args.block.now c.if-block-lt-MIN_BLOCK.true)

pub returns-then-block-gt-BLOCK : goal.returns-then-block-gt-BLOCK
returns-then-block-gt-BLOCK c =
    sym (form-long c.args.block.now c.if-block-gt-BLOCK.true)

pub returns-then-not-head_ok : goal.returns-then-not-head_ok
returns-then-not-head_ok c =
    sym (head-bad c.args.block.now c.if-block-lt-MIN_BLOCK.false c.if-block-gt-BLOCK.false (sym c.head_ok.ensures ∙ c.if-not-head_ok.true))

pub returns-then-not-all_data : goal.returns-then-not-all_data
returns-then-not-all_data c =
    let b = c.args.block.now in
    let head = sym c.head_ok.ensures ∙ c.if-not-head_ok.false in
    sym (data-bad b c.if-block-lt-MIN_BLOCK.false c.if-block-gt-BLOCK.false head (sym (c.all_data.ensures ∙ ap all_data (data-part b c.if-block-lt-MIN_BLOCK.false)) ∙ c.if-not-all_data.true))

pub returns : goal.returns
returns c =
    let b = c.args.block.now in
    let head = sym c.head_ok.ensures ∙ c.if-not-head_ok.false in
    let fit = sym (c.all_data.ensures ∙ ap all_data (data-part b c.if-block-lt-MIN_BLOCK.false)) ∙ c.if-not-all_data.false in
    c.end_ok.ensures ∙ sym (end-left b c.if-block-lt-MIN_BLOCK.false c.if-block-gt-BLOCK.false head fit)
