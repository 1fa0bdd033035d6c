-- The lengths that a row of the field table allows.
-- What they say of a label and its content is said by `fits-row` in proofs/FittingLaws.
use Rattle.std.specs.Prelude.{Bool, ◌&&◌, ℕ, leb}
use Rattle.meaning.specs.declared.FieldRow.{FieldRow}

-- a content of n bytes has a length that the row allows
unfoldable pub length_fits : FieldRow → ℕ → Bool
length_fits x n = leb x.least n && leb n x.most
