-- The look-up of a label's row together with the label's number, by which the flags of what was seen go.
-- The meaning's own look-up (`Tables.find`) is this one without the number (`find-is` in proofs/FindLaws).
use Rattle.std.specs.Prelude.{cond, List, [], ◌∷◌, ℕ, eqb}
use Rattle.std.proofs.Math.Option.{Option, none, some}
use Rattle.meaning.specs.declared.Row.{Row}
use Rattle.table_fields.specs.LabelNumbers.{label_number}

-- what looking a label up finds: its number and its row; or the label is not in the set's table
pub data Found : Type 0 where
  At : ℕ → Row → Found
  NoRow : Found

-- the first row of a label
unfoldable pub find_from : List Row → ℕ → Found
find_from [] l = NoRow
find_from (r ∷ rs) l = let rest = find_from rs l in cond (eqb l r.label) (At (label_number r.label) r) rest

-- the row alone
abbrev pub just_row : Found → Option Row
just_row (At i r) = some r
just_row NoRow = none
