-- `decimals_from` asks for a byte, then for digits.
use mathlib.Core.Path.{sym, ◌∙◌}
use native.Mathlib.Omega.{arith}
use Rattle.table_floats.proofs.FloatLaws.{decimals-some, decimals-none}
use Rattle.table_floats.proofs.decimals_from.Goals as goal

pub returns-then-from-c : goal.returns-then-from-c
returns-then-from-c c =
    c.all_digits.ensures ∙ sym (decimals-some _ c.args.from (omega arith))

pub returns : goal.returns
returns c = sym (decimals-none _ c.args.from (omega arith))
