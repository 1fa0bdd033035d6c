-- `fits_label` asks the length, then whether the kind allows any bytes, and only then reads them, by the row of the label.
use mathlib.Core.Path.{sym, ◌∙◌}
use Rattle.table_kinds.proofs.FittingLaws.{fits_not, fits-kind, fits-any}
use Rattle.table_kinds.proofs.fits_label.Goals as goal

pub returns-then-not-has_length : goal.returns-then-not-has_length
returns-then-not-has_length c =
    sym (fits_not _ _ _ c.field_row-row.ensures (sym c.has_length.ensures ∙ c.if-not-has_length.true))

pub returns-in-Alnum : goal.returns-in-Alnum
returns-in-Alnum c =
    sym (fits-any _ _ _ c.field_row-row.ensures (sym c.has_length.ensures ∙ c.if-not-has_length.false) c.in-Alnum.is)

pub returns-in_default : goal.returns-in_default
returns-in_default c =
    c.of_kind.ensures ∙ sym (fits-kind _ _ _ c.field_row-row.ensures (sym c.has_length.ensures ∙ c.if-not-has_length.false))
