-- The number of a label, by which the flags of what was seen go: its place in the field table.
use Rattle.std.specs.Prelude.{cond, List, [], ◌∷◌, ℕ, suc, eqb}
use Rattle.meaning.specs.declared.FieldRow.{FieldRow}
use Rattle.meaning.specs.FieldTable.{field_table}

-- how many rows stand before the label's; all of them if it has none
unfoldable pub rows_before : List FieldRow → ℕ → ℕ
rows_before [] l = 0
rows_before (x ∷ xs) l = let rest = rows_before xs l in cond (eqb l x.label) 0 (suc rest)

-- the number of a label: the field table has every label of every set table once, lowest first
unfoldable pub label_number : ℕ → ℕ
label_number l = rows_before field_table l
