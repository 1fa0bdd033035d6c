-- `two_digits` asks for two digits and counts them.
use mathlib.Core.Path.{sym, ◌∙◌}
use native.Mathlib.Omega.{arith}
use Rattle.meaning.specs.Kinds.{two_at}
use Rattle.byte_digits.proofs.TwoDigitsLaws.{digit-counts}
use Rattle.byte_digits.proofs.two_digits.Goals as goal

pub overflow_sub-result : goal.overflow_sub-result
overflow_sub-result c =
    omega (arith, digit-counts c.args.a (sym c.is_digit.ensures ∙ c.if-is_digit.true))

pub overflow_mul-result : goal.overflow_mul-result
overflow_mul-result c =
    omega (arith, digit-counts c.args.a (sym c.is_digit.ensures ∙ c.if-is_digit.true))

pub overflow_sub-result-then-is_digit-2 : goal.overflow_sub-result-then-is_digit-2
overflow_sub-result-then-is_digit-2 c =
    omega (arith, digit-counts c.args.b (sym c.is_digit-then-is_digit.ensures ∙ c.if-is_digit-2.true))

pub overflow_add-result : goal.overflow_add-result
overflow_add-result c =
    omega (
      arith,
      digit-counts c.args.a (sym c.is_digit.ensures ∙ c.if-is_digit.true),
      digit-counts c.args.b (sym c.is_digit-then-is_digit.ensures ∙ c.if-is_digit-2.true),
    )

pub returns-then-is_digit-2 : goal.returns-then-is_digit-2
unfolding two_at
returns-then-is_digit-2 c =
    rw (sym c.is_digit.ensures ∙ c.if-is_digit.true, sym c.is_digit-then-is_digit.ensures ∙ c.if-is_digit-2.true)

pub returns-then-is_digit : goal.returns-then-is_digit
unfolding two_at
returns-then-is_digit c =
    rw (sym c.is_digit.ensures ∙ c.if-is_digit.true, sym c.is_digit-then-is_digit.ensures ∙ c.if-is_digit-2.false)

pub returns : goal.returns
unfolding two_at
returns c = rw (sym c.is_digit.ensures ∙ c.if-is_digit.false)
