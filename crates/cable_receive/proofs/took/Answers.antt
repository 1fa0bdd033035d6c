-- `took`: by the label.
use mathlib.Core.Path.{sym, ap}
use Rattle.meaning_cable.specs.Blocks.{label_digit}
use Rattle.cable_receive.proofs.RoomLaws.{not-last, took-last, took-other}
use Rattle.cable_receive.proofs.took.Goals as goal

pub returns-in-B02 : goal.returns-in-B02
returns-in-B02 c =
    let a = c.args in
    sym (took-last a.count (label_digit a.label) a.used (ap label_digit c.in-B02.is))

pub returns-in-B00 : goal.returns-in-B00
returns-in-B00 c =
    let a = c.args in
    sym (took-other a.count (label_digit a.label) a.used (not-last a.label c.in-B00.is))
