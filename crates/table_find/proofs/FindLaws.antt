-- Laws of the look-up: it is the meaning's own, a found row is the table's row of that number and has the label asked for, and each row is found at its own number.
use mathlib.Core.Path.{◌≡◌, refl, sym, ap, ◌∙◌}
use mathlib.Core.Bool.{Bool, true, false, cond, true≢false}
use mathlib.Core.List.{List, [], ◌∷◌}
use mathlib.Core.Option.{some}
use Prim.Native.Nat.{ℕ, suc, ◌%◌, ◌≤◌, ◌<◌}
use native.Mathlib.Omega.{arith}
use lib.Dec.{leb, eqb}
use borrow.Author.Tests.{ne_eqb, eqb-true, eqb-false, leb-true}
use Rattle.std.specs.Prelude.{None}
use Rattle.meaning.specs.declared.Row.{Row}
use Rattle.meaning.specs.declared.SetType.{SetType}
use Rattle.meaning.specs.declared.SetType.TheVariants.{T6300, T6301, T6302, T6310, T6311}
use Rattle.meaning.specs.Tables.{rows6300, rows6301, rows6302, rows6310, rows6311, table, is_pair_label, row_label, find_in, find}
use Rattle.meaning.specs.FieldTable.{field_table}
use Rattle.meaning.proofs.Bools.{and_left, and_right}
use Rattle.meaning.proofs.RowLaws.{all_rows}
use Rattle.table_fields.proofs.Arms.{NoneOf, none_beside}
use Rattle.table_fields.specs.LabelNumbers.{rows_before, label_number}
use Rattle.table_find.specs.LookUp.{At, NoRow, find_from, just_row}
use Rattle.table_find.specs.TableRows.{table_row}

-- ---- the look-up with the number is the meaning's, without it

find-in-is : (rs : List Row) (l : ℕ) → find_in rs l ≡ just_row (find_from rs l)
unfolding find_in find_from
find-in-is [] l = refl
find-in-is (r ∷ rs) l = pick (eqb l r.label) (find-in-is rs l)
  where
    pick : (b : Bool) → find_in rs l ≡ just_row (find_from rs l) → cond b (some r) (find_in rs l) ≡ just_row (cond b (At (label_number r.label) r) (find_from rs l))
    pick true e = refl
    pick false e = e

-- the row of a label, as the meaning finds it
pub find-is : (rs : List Row) (l : ℕ) → find rs l ≡ just_row (find_from rs (row_label l))
unfolding find
find-is rs l = find-in-is rs (row_label l)

-- ---- a label that is not in the table

-- the labels of rows, without the two that are printed for names and odd labels
unfoldable pub plain_labels : List Row → List ℕ
plain_labels [] = []
plain_labels (r ∷ rs) = let rest = plain_labels rs in cond (is_pair_label r.label) rest (r.label ∷ rest)

-- a label that is none of these, no name and no odd label is not found
find-plain : (A : Type 0) (rs : List Row) (l : ℕ) → is_pair_label l ≡ false → NoneOf A l (plain_labels rs) → find_from rs l ≡ NoRow
unfolding find_from plain_labels
find-plain A [] l p h = refl
find-plain A (r ∷ rs) l p h = go (λ B g. find-plain B rs l p g) (is_pair_label r.label) refl h
  where
    go : ((B : Type 0) → NoneOf B l (plain_labels rs) → find_from rs l ≡ NoRow) → (b : Bool) → is_pair_label r.label ≡ b
        → NoneOf A l (cond b (plain_labels rs) (r.label ∷ plain_labels rs)) → cond (eqb l r.label) (At (label_number r.label) r) (find_from rs l) ≡ NoRow
    go rest true q g = rw (ne_eqb l r.label (λ e. true≢false (sym q ∙ (ap is_pair_label (sym e) ∙ p)))) (rest A g)
    go rest false q g =
        rw (ne_eqb l r.label (none_beside (A × (l ≡ r.label → ⊥)) l (plain_labels rs) g).1) (rest (A × (l ≡ r.label → ⊥)) g)

-- the label of a row is the label itself, but for names and odd labels
row_plain : (l : ℕ) → is_pair_label l ≡ false → row_label l ≡ l
unfolding row_label
row_plain l p = rw p

pub row-even : (l : ℕ) → is_pair_label l ≡ true → l % 2 ≡ 0 → row_label l ≡ 6330
unfolding row_label
row-even l p e = rw (p, e)

pub row-odd : (l : ℕ) → is_pair_label l ≡ true → (l % 2 ≡ 0 → ⊥) → row_label l ≡ 6331
unfolding row_label
row-odd l p n = let e : l % 2 ≡ 1 = omega arith in rw (p, e)

-- the last arm of a `match` on these labels
module _ (A : Type 0) (rs : List Row) (l : ℕ) (h : NoneOf A l (plain_labels rs)) where
  plain : is_pair_label l ≡ false → find_from rs (row_label l) ≡ NoRow
  plain p = rw (row_plain l p) (find-plain A rs l p h)

  -- if the table has names
  pub find-pairs : table_row (find_from rs (row_label l)) ≡ cond (is_pair_label l) (table_row (find_from rs (row_label l))) None
  unfolding table_row
  find-pairs = go (is_pair_label l) refl
    where
      go : (b : Bool) → is_pair_label l ≡ b → table_row (find_from rs (row_label l)) ≡ cond b (table_row (find_from rs (row_label l))) None
      go true p = refl
      go false p = ap table_row (plain p)

  -- if it has none
  pub find_none : find_from rs 6330 ≡ NoRow → find_from rs 6331 ≡ NoRow → find_from rs (row_label l) ≡ NoRow
  find_none even odd = go (is_pair_label l) refl (eqb (l % 2) 0) refl
    where
      go : (b : Bool) → is_pair_label l ≡ b → (d : Bool) → eqb (l % 2) 0 ≡ d → find_from rs (row_label l) ≡ NoRow
      go false p d q = plain p
      go true p true q = ap (λ (k : ℕ). find_from rs k) (row-even l p (eqb-true (l % 2) 0 q)) ∙ even
      go true p false q = ap (λ (k : ℕ). find_from rs k) (row-odd l p (eqb-false (l % 2) 0 q)) ∙ odd

-- ---- a row that is found

-- what a search says of the row that it finds
record Place (rs : List Row) (l i : ℕ) (r : Row) : Type 0 where
  is : r.label ≡ l
  number : i ≡ label_number r.label
  passes : (test : Row → Bool) → all_rows test rs ≡ true → test r ≡ true

place_of : (rs : List Row) (l i : ℕ) (r : Row) → find_from rs l ≡ At i r → Place rs l i r
unfolding find_from
place_of [] l i r e = let z : ◌≡◌ {A = ℕ} 0 1 = cc in absurd (omega arith)
place_of (x ∷ rs) l i r e = go (λ q. place_of rs l i r q) (eqb l x.label) refl e
  where
    go : (find_from rs l ≡ At i r → Place rs l i r) → (b : Bool) → eqb l x.label ≡ b → cond b (At (label_number x.label) x) (find_from rs l) ≡ At i r → Place (x ∷ rs) l i r
    go rest true q h =
        let a : label_number x.label ≡ i = cc in
        let b : x ≡ r = cc in
        record {
          is = ap (λ (y : Row). y.label) (sym b) ∙ sym (eqb-true l x.label q);
          number = sym a ∙ ap (λ (y : Row). label_number y.label) b;
          passes = λ test t. ap test (sym b) ∙ and_left (test x) (all_rows test rs) t;
        }
    go rest false q h =
        let p = rest h in
        record { is = p.is; number = p.number; passes = λ test t. p.passes test (and_right (test x) (all_rows test rs) t) }

module _ (rs : List Row) (l i : ℕ) (r : Row) (e : find_from rs l ≡ At i r) where
  -- the row has the label that was asked for
  pub found-row : r.label ≡ l
  found-row = (place_of rs l i r e).is

  -- the number is its label's
  pub found_number : i ≡ label_number r.label
  found_number = (place_of rs l i r e).number

  -- it passes what all rows pass
  pub found-passes : (test : Row → Bool) → all_rows test rs ≡ true → test r ≡ true
  found-passes = (place_of rs l i r e).passes

-- ---- the five tables

-- what holds of the five holds of the table of every set type
pub table-all : (P : List Row → Type 0) → P rows6300 → P rows6301 → P rows6302 → P rows6310 → P rows6311 → (settype : SetType) → P (table settype)
unfolding table
table-all P a b c d e T6300 = a
table-all P a b c d e T6301 = b
table-all P a b c d e T6302 = c
table-all P a b c d e T6310 = d
table-all P a b c d e T6311 = e

-- every label of the five has a row in the field table
abbrev has_number : Row → Bool
has_number r = leb (suc (label_number r.label)) 57

numbers-test : (settype : SetType) → all_rows has_number (table settype) ≡ true
unfolding rows6300 rows6301 rows6302 rows6310 rows6311 label_number rows_before field_table
numbers-test = table-all (λ rs. all_rows has_number rs ≡ true) refl refl refl refl refl

-- so a found number is below 57, whatever the set type
pub row_below : (settype : SetType) (l i : ℕ) (r : Row) → find_from (table settype) l ≡ At i r → i < 57
row_below settype l i r e =
    let h : suc (label_number r.label) ≤ 57 = leb-true _ 57 (found-passes (table settype) l i r e has_number (numbers-test settype)) in
    omega (arith, found_number (table settype) l i r e)
