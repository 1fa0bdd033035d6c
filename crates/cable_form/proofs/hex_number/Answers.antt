-- `hex_number`: each of the four is a hex digit.
use Rattle.cable_form.proofs.FormLaws.{four-hex, four-number}
use Rattle.cable_form.proofs.hex_number.Goals as goal

pub hex_value-requires : goal.hex_value-requires
hex_value-requires c =
    let a = c.args in
    (four-hex a.a a.b a.c a.d c.requires).0

pub hex_value-requires-2 : goal.hex_value-requires-2
hex_value-requires-2 c =
    let a = c.args in
    (four-hex a.a a.b a.c a.d c.requires).1

pub hex_value-requires-3 : goal.hex_value-requires-3
hex_value-requires-3 c =
    let a = c.args in
    (four-hex a.a a.b a.c a.d c.requires).2

pub hex_value-requires-4 : goal.hex_value-requires-4
hex_value-requires-4 c =
    let a = c.args in
    (four-hex a.a a.b a.c a.d c.requires).3

pub returns : goal.returns
returns c =
    let a = c.args in
    four-number a.a a.b a.c a.d _ _ _ _ c.hex_value.ensures.0 c.hex_value-2.ensures.0 c.hex_value-3.ensures.0 c.hex_value-4.ensures.0
