-- What the answer of a look-up says of a label: that it has no row, or its row's number, its header, whether it repeats, and the row of its content.
use mathlib.Core.Path.{◌≡◌, refl, sym, ap, ◌∙◌}
use Prim.Native.Nat.{ℕ, ◌<◌}
use native.Mathlib.Omega.{arith}
use Rattle.std.specs.Prelude.{Some, None}
use Rattle.std.proofs.lemmas.Option.{none-some, same_Some}
use Rattle.meaning.specs.declared.Row.{Row}
use Rattle.meaning.specs.declared.SetType.{SetType}
use Rattle.meaning.specs.Tables.{table, row_label}
use Rattle.meaning.specs.FieldTable.{field_table, field_row_in, field_row}
use Rattle.table_find.specs.declared.TableRow.{TableRow}
use Rattle.table_find.specs.LookUp.{Found, At, NoRow, find_from}
use Rattle.table_find.specs.TableRows.{table_row}
use Rattle.table_find.proofs.FindLaws.{found-row, row_below}

-- what a row that is answered says of a label
pub record Answered (settype : SetType) (l : ℕ) (x : TableRow) : Type 0 where
  pub row : Row
  pub is : find_from (table settype) (row_label l) ≡ At x.number row
  pub under-so : row.under ≡ x.under
  pub many-so : row.many ≡ x.many
  pub field-so : x.field ≡ field_row l
  pub below : x.number < 57

module _ (settype : SetType) (l : ℕ) where
  pub none-answered : None ≡ table_row (find_from (table settype) (row_label l)) → find_from (table settype) (row_label l) ≡ NoRow
  unfolding table_row
  none-answered e = go (find_from (table settype) (row_label l)) e
    where
      go : (o : Found) → None ≡ table_row o → o ≡ NoRow
      go NoRow q = refl
      go (At i r) q = absurd (none-some _ q)

  row-answered : (x : TableRow) (i : ℕ) (r : Row) → find_from (table settype) (row_label l) ≡ At i r
      → x ≡ record { number = i; under = r.under; many = r.many; field = field_row_in field_table r.label } → Answered settype l x
  unfolding field_row
  row-answered x i r q w =
      let n : x.number ≡ i = ap (λ (y : TableRow). y.number) w in
      record {
        row = r;
        is = q ∙ ap (λ (k : ℕ). At k r) (sym n);
        under-so = sym (ap (λ (y : TableRow). y.under) w);
        many-so = sym (ap (λ (y : TableRow). y.many) w);
        field-so = ap (λ (y : TableRow). y.field) w ∙ ap (λ (k : ℕ). field_row_in field_table k) (found-row (table settype) (row_label l) i r q);
        below = let b : i < 57 = row_below settype (row_label l) i r q in omega arith;
      }

  pub answered : (x : TableRow) → Some x ≡ table_row (find_from (table settype) (row_label l)) → Answered settype l x
  unfolding table_row
  answered x e = go (find_from (table settype) (row_label l)) refl
    where
      go : (o : Found) → find_from (table settype) (row_label l) ≡ o → Answered settype l x
      go NoRow q = absurd (none-some x (sym (e ∙ ap table_row q)))
      go (At i r) q = row-answered x i r q (same_Some _ _ (e ∙ ap table_row q))
