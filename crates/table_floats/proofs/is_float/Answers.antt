-- `is_float` leaves a minus out and asks the rest.
use mathlib.Core.Path.{sym, ◌∙◌}
use Rattle.table_floats.proofs.FloatLaws.{float-minus, float_plain}
use Rattle.table_floats.proofs.is_float.Goals as goal

pub returns-then-byte_at-eq-MINUS : goal.returns-then-byte_at-eq-MINUS
returns-then-byte_at-eq-MINUS c =
    c.unsigned_from.ensures ∙ sym (float-minus _ (sym c.byte_at.ensures ∙ c.if-byte_at-eq-MINUS.true))

pub returns : goal.returns
returns c =
    c.unsigned_from-2.ensures ∙ sym (float_plain _ (λ e. c.if-byte_at-eq-MINUS.false (c.byte_at.ensures ∙ e)))
