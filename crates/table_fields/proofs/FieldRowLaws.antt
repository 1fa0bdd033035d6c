-- A label without a row in the field table has none.
use mathlib.Core.Path.{◌≡◌, refl}
use mathlib.Core.List.{List, [], ◌∷◌, map}
use Prim.Native.Nat.{ℕ}
use borrow.Author.Tests.{ne_eqb}
use Rattle.meaning.specs.declared.FieldRow.{FieldRow}
use Rattle.meaning.specs.FieldTable.{field_row_in, no_row}
use Rattle.table_fields.proofs.Arms.{NoneOf, none_beside}

-- the labels of field rows
abbrev pub field_labels : List FieldRow → List ℕ
field_labels xs = map (λ (x : FieldRow). x.label) xs

-- a label that is none of a table's has no row there
pub field-none : (A : Type 0) (xs : List FieldRow) (l : ℕ) → NoneOf A l (field_labels xs) → field_row_in xs l ≡ no_row
unfolding field_row_in
field-none A [] l h = refl
field-none A (x ∷ xs) l h =
    rw (ne_eqb l x.label (none_beside (A × (l ≡ x.label → ⊥)) l (field_labels xs) h).1) (field-none (A × (l ≡ x.label → ⊥)) xs l h)
