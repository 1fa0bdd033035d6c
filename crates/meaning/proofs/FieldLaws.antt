-- A content that fits its field has 1 to 60 bytes: by one computed test over the field table. And what the row of 8100 says.
use mathlib.Core.Path.{◌≡◌, refl}
use mathlib.Core.Bool.{Bool, true, false, cond, ◌&&◌}
use mathlib.Core.List.{List, [], ◌∷◌}
use Prim.Native.Nat.{ℕ, ◌≤◌}
use native.Mathlib.Omega.{arith}
use lib.Dec.{leb, eqb}
use lib.ListN.{length}
use borrow.Author.Tests.{leb-true}
use Rattle.meaning.specs.Digits.{digits, all_digits}
use Rattle.meaning.specs.Field.{Field, field}
use Rattle.meaning.specs.declared.FieldRow.{FieldRow}
use Rattle.meaning.specs.Tables.{row_label}
use Rattle.meaning.specs.Kinds.{is_num, of_kind}
use Rattle.meaning.specs.FieldTable.{field_table, field_row_in, field_row, has_length, fits_row, fits_label}
use Rattle.meaning.specs.Rules.{Profile, fits}
use Rattle.meaning.proofs.Bools.{and_left, and_right}
use Rattle.meaning.proofs.DigitLaws.{digits-all}

-- the most bytes that any field allows
abbrev pub longest : ℕ
longest = 60

-- 1 to 60 bytes
pub record Short (c : List ℕ) : Type 0 where
  pub some_byte : 1 ≤ length c
  pub few_bytes : length c ≤ longest

abbrev within : FieldRow → Bool
within x = leb 1 x.least && leb x.most longest

abbrev all_within : List FieldRow → Bool
all_within [] = true
all_within (x ∷ xs) = within x && all_within xs

row_within : (xs : List FieldRow) (l : ℕ) → all_within xs ≡ true → within (field_row_in xs l) ≡ true
unfolding field_row_in
row_within [] l e = refl
row_within (x ∷ xs) l e = pick (eqb l x.label) (and_left (within x) _ e) (row_within xs l (and_right (within x) _ e))
  where
    pick : (b : Bool) → within x ≡ true → within (field_row_in xs l) ≡ true → within (cond b x (field_row_in xs l)) ≡ true
    pick true p q = p
    pick false p q = q

fits-row-short : (x : FieldRow) (c : List ℕ) → within x ≡ true → fits_row x c ≡ true → Short c
unfolding fits_row has_length
fits-row-short x c w m =
    let a : 1 ≤ x.least = leb-true 1 _ (and_left (leb 1 x.least) _ w) in
    let b : x.most ≤ longest = leb-true _ longest (and_right (leb 1 x.least) _ w) in
    let s = and_left (leb x.least (length c) && leb (length c) x.most) _ m in
    let p : x.least ≤ length c = leb-true _ (length c) (and_left (leb x.least (length c)) _ s) in
    let q : length c ≤ x.most = leb-true (length c) _ (and_right (leb x.least (length c)) _ s) in
    record { some_byte = omega arith; few_bytes = omega arith }

pub fits-short : (p : Profile) (f : Field) → fits p f ≡ true → Short f.content
unfolding fits fits_label field_row field_table
fits-short p f e = fits-row-short (field_row f.label) f.content (row_within field_table (row_label f.label) refl) e

-- ---- 8100

-- "8100 has five digits"
pub record FiveDigits (c : List ℕ) : Type 0 where
  pub five : length c ≡ 5
  pub all-digits : all_digits c ≡ true

pub sum_fits : (p : Profile) (c : List ℕ) → fits p (field 8100 c) ≡ true → FiveDigits c
unfolding fits fits_label fits_row field_row field_row_in field_table row_label has_length of_kind is_num
sum_fits p c e =
    let s : leb 5 (length c) && leb (length c) 5 ≡ true = and_left _ (all_digits c) e in
    let lo : 5 ≤ length c = leb-true 5 (length c) (and_left _ _ s) in
    let hi : length c ≤ 5 = leb-true (length c) 5 (and_right (leb 5 (length c)) _ s) in
    record { five = omega arith; all-digits = and_right (leb 5 (length c) && leb (length c) 5) _ e }

pub fits_sum : (p : Profile) (n : ℕ) → fits p (field 8100 (digits 5 n)) ≡ true
unfolding fits fits_label fits_row field_row field_row_in field_table row_label has_length of_kind is_num
fits_sum p n = digits-all 5 n
