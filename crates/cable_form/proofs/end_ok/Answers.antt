-- `end_ok`: four hex digits, then 0Dh.
use mathlib.Core.Path.{sym, ap, ◌∙◌}
use Rattle.meaning_cable.specs.Receiving.{all_hex}
use Rattle.cable_form.proofs.FormLaws.{digits-part, end-no-hex, end-hex}
use Rattle.cable_form.proofs.end_ok.Goals as goal

pub returns-then-not-all_hex : goal.returns-then-not-all_hex
returns-then-not-all_hex c =
    let b = c.args.block.now in
    sym (end-no-hex b _ (c.all_hex.ensures ∙ ap all_hex (digits-part b c.requires)) (c.if-not-all_hex.true))

pub returns : goal.returns
returns c =
    let b = c.args.block.now in
    sym (end-hex b _ (c.all_hex.ensures ∙ ap all_hex (digits-part b c.requires)) (c.if-not-all_hex.false))
