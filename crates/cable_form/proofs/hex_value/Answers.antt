-- `hex_value`: a digit, or one of six letters.
use native.Mathlib.Omega.{arith}
use Rattle.cable_form.proofs.FormLaws.{number-least, letter-bounds, number-value, letter-value}
use Rattle.cable_form.proofs.hex_value.Goals as goal

pub overflow_sub-result : goal.overflow_sub-result
overflow_sub-result c =
    number-least c.args.b c.requires c.if-b-le-DIGIT_NINE.true

pub returns-then-b-le-DIGIT_NINE : goal.returns-then-b-le-DIGIT_NINE
returns-then-b-le-DIGIT_NINE c = (number-value c.args.b c.if-b-le-DIGIT_NINE.true, omega arith)

pub overflow_sub-result-2 : goal.overflow_sub-result-2
overflow_sub-result-2 c =
    (letter-bounds c.args.b c.requires c.if-b-le-DIGIT_NINE.false).0

pub overflow_add-result : goal.overflow_add-result
overflow_add-result c =
    omega (arith, letter-bounds c.args.b c.requires c.if-b-le-DIGIT_NINE.false)

pub returns : goal.returns
returns c =
    (letter-value c.args.b c.if-b-le-DIGIT_NINE.false, omega (arith, letter-bounds c.args.b c.requires c.if-b-le-DIGIT_NINE.false))
