-- Labels of the field table have different numbers.
use mathlib.Core.Path.{◌≡◌, refl, sym, ◌∙◌}
use mathlib.Core.Bool.{Bool, true, false, cond}
use mathlib.Core.List.{List, [], ◌∷◌}
use Prim.Native.Nat.{ℕ, suc, ◌<◌}
use native.Mathlib.Omega.{arith}
use lib.Dec.{eqb}
use lib.ListN.{length}
use borrow.Author.Tests.{eqb-true}
use Rattle.meaning.specs.declared.FieldRow.{FieldRow}
use Rattle.meaning.specs.FieldTable.{field_table}
use Rattle.table_fields.specs.LabelNumbers.{rows_before, label_number}

-- two labels with one number are one label, if one of them has a row
rows-before-same : (xs : List FieldRow) (l m : ℕ) → rows_before xs l ≡ rows_before xs m → rows_before xs l < length xs → l ≡ m
unfolding rows_before
rows-before-same [] l m e h = absurd (omega arith)
rows-before-same (x ∷ xs) l m e h = go (rows-before-same xs l m) (eqb l x.label) refl (eqb m x.label) refl e h
  where
    go : (rows_before xs l ≡ rows_before xs m → rows_before xs l < length xs → l ≡ m) → (a : Bool) → eqb l x.label ≡ a → (b : Bool) → eqb m x.label ≡ b
        → cond a 0 (suc (rows_before xs l)) ≡ cond b 0 (suc (rows_before xs m)) → cond a 0 (suc (rows_before xs l)) < suc (length xs) → l ≡ m
    go ih true p true q e h = eqb-true l x.label p ∙ sym (eqb-true m x.label q)
    go ih true p false q e h = absurd (omega arith)
    go ih false p true q e h = absurd (omega arith)
    go ih false p false q e h = ih (omega arith) (omega arith)

pub one_number : (l m : ℕ) → label_number l ≡ label_number m → label_number l < 57 → l ≡ m
unfolding label_number field_table
one_number l m e h = rows-before-same field_table l m e (omega arith)
