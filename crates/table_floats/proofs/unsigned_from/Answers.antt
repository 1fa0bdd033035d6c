-- `unsigned_from` asks for a digit, then for the rest.
use mathlib.Core.Path.{sym, ◌∙◌}
use native.Mathlib.Omega.{arith}
use Rattle.table_floats.proofs.FloatLaws.{unsigned-more, unsigned-stop, unsigned-none}
use Rattle.table_floats.proofs.unsigned_from.Goals as goal

pub returns-then-c-from : goal.returns-then-c-from
returns-then-c-from c = sym (unsigned-none _ c.args.from (omega arith))

pub returns-then-is_digit : goal.returns-then-is_digit
returns-then-is_digit c =
    c.whole_from.ensures
    ∙ sym (unsigned-more _ c.args.from (omega arith) (sym c.is_digit.ensures ∙ c.if-is_digit.true))

pub returns : goal.returns
returns c =
    sym (unsigned-stop _ c.args.from (omega arith) (sym c.is_digit.ensures ∙ c.if-is_digit.false))
