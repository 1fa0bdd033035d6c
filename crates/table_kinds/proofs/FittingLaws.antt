-- What each test of the code says of the definitions: one law for each way that a test can end.
-- The code goes by offsets and the definitions by lists, so some laws speak of what is left from an offset on.
use mathlib.Core.Path.{◌≡◌, refl, ◌∙◌}
use mathlib.Core.Bool.{true, false, ◌&&◌}
use mathlib.Core.List.{List, [], ◌∷◌}
use Prim.Native.Nat.{ℕ, ◌+◌, ◌≤◌, ◌<◌}
use native.Mathlib.Numerals.{add-one}
use native.Mathlib.Omega.{arith}
use lib.Dec.{eqb}
use lib.ListN.{length, get_or, drop, drop_of_length-le}
use lib.Seq.{drop-cons}
use borrow.Author.Tests.{eq-eqb, ne_eqb}
use Rattle.meaning.specs.declared.FieldRow.{FieldRow}
use Rattle.meaning.specs.declared.Kind.TheVariants.{Alnum}
use Rattle.meaning.specs.Kinds.{same_bytes, is_alnum, of_kind}
use Rattle.meaning.specs.FieldTable.{field_row, has_length, fits_row, fits_label}
use Rattle.meaning.proofs.Bools.{and_no}
use Rattle.table_kinds.specs.Fitting.{length_fits}

-- ---- a content and a row of the field table

-- the row of a label
module _ (x : FieldRow) (l : ℕ) (c : List ℕ) (e : x ≡ field_row l) where
  pub fits-row : fits_label l c ≡ length_fits x (length c) && of_kind x.kind c
  unfolding fits_label fits_row has_length length_fits
  fits-row = rw e

  -- a length that does not fit
  pub fits_not : length_fits x (length c) ≡ false → fits_label l c ≡ false
  fits_not n = rw (fits-row, n)

  -- a length that fits: the kind decides
  pub fits-kind : length_fits x (length c) ≡ true → fits_label l c ≡ of_kind x.kind c
  fits-kind n = rw (fits-row, n)

  -- .. and any bytes are alphanumeric
  pub fits-any : length_fits x (length c) ≡ true → x.kind ≡ Alnum → fits_label l c ≡ true
  unfolding of_kind is_alnum
  fits-any n z = fits-kind n ∙ rw z

-- ---- the same bytes

-- contents of two lengths differ
pub same-lengths : (c d : List ℕ) → (length c ≡ length d → ⊥) → same_bytes c d ≡ false
unfolding same_bytes
same-lengths [] [] h = absurd (h refl)
same-lengths [] (y ∷ d) h = refl
same-lengths (x ∷ c) [] h = refl
same-lengths (x ∷ c) (y ∷ d) h = and_no (eqb x y) (same-lengths c d (λ e. h (omega arith)))

-- if a byte of each is left
module _ (c d : List ℕ) (i : ℕ) (h : i < length c) (g : i < length d) where
  pub same_more : get_or c i 0 ≡ get_or d i 0 → same_bytes (drop i c) (drop i d) ≡ same_bytes (drop (i + 1) c) (drop (i + 1) d)
  unfolding same_bytes
  same_more e = rw (add-one, drop-cons c i 0, drop-cons d i 0, eq-eqb (get_or c i 0) (get_or d i 0) e)

  pub same_stop : (get_or c i 0 ≡ get_or d i 0 → ⊥) → same_bytes (drop i c) (drop i d) ≡ false
  unfolding same_bytes
  same_stop n = rw (drop-cons c i 0, drop-cons d i 0, ne_eqb (get_or c i 0) (get_or d i 0) n)

-- if none of either is left
pub same_end : (c d : List ℕ) (i : ℕ) → length c ≤ i → length d ≤ i → same_bytes (drop i c) (drop i d) ≡ true
unfolding same_bytes
same_end c d i h g = rw (drop_of_length-le c h, drop_of_length-le d g)
