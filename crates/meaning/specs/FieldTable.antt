-- The field table (chapter 4 of the QMS description), row by row in the order printed there, and whether a content fits its field.
-- Document 002 decides. Document 000 has the same rows, with specks of print in some rule cells, which are passed over. 6330 and 6331 stand for their ranges, as in Tables.
use Rattle.std.specs.Prelude.{Bool, cond, ◌&&◌, List, [], ◌∷◌, ℕ, length, leb, eqb}
use Rattle.meaning.specs.declared.FieldRow.{FieldRow}
use Rattle.meaning.specs.declared.Kind.{Kind}
use Rattle.meaning.specs.declared.Kind.TheVariants.{Alnum, Num, Float, Rule020, Rule008, Rule090, Rule112, Rule116, Charset, Version}
use Rattle.meaning.specs.Kinds.{of_kind}
use Rattle.meaning.specs.Tables.{row_label}

-- the least and the most bytes that a content may have
pub record Lengths : Type 0 where
  pub least : ℕ
  pub most : ℕ

-- "8" means exactly
abbrev pub exactly : ℕ → Lengths
exactly k = record { least = k; most = k }

-- "<=60" means 1 to 60
abbrev pub up_to : ℕ → Lengths
up_to k = record { least = 1; most = k }

-- "var" is taken as 1 to 60
abbrev pub var : Lengths
var = up_to 60

abbrev pub row : ℕ → Lengths → Kind → FieldRow
row l n k = record { label = l; least = n.least; most = n.most; kind = k }

-- the rows: label, length, kind
unfoldable pub field_table : List FieldRow
field_table =
    row 102 (up_to 60) Alnum
    ∷ row 103 (up_to 60) Alnum
    ∷ row 132 (up_to 60) Alnum
    ∷ row 3000 (up_to 10) Alnum
    ∷ row 3100 (up_to 15) Alnum
    ∷ row 3101 (up_to 28) Alnum
    ∷ row 3102 (up_to 28) Alnum
    ∷ row 3103 (exactly 8) Rule020
    ∷ row 3104 (up_to 15) Alnum
    ∷ row 3105 (up_to 12) Alnum
    ∷ row 3106 (up_to 30) Alnum
    ∷ row 3107 (up_to 28) Alnum
    ∷ row 3108 (exactly 1) Rule116
    ∷ row 3110 (exactly 1) Rule112
    ∷ row 3622 var Float
    ∷ row 3623 var Float
    ∷ row 3628 (up_to 60) Alnum
    ∷ row 6200 (exactly 8) Rule008
    ∷ row 6201 (exactly 6) Rule090
    ∷ row 6205 (up_to 60) Alnum
    ∷ row 6220 (up_to 60) Alnum
    ∷ row 6221 (up_to 60) Alnum
    ∷ row 6226 (up_to 4) Num
    ∷ row 6227 (up_to 60) Alnum
    ∷ row 6228 (up_to 60) Alnum
    ∷ row 6302 (up_to 60) Alnum
    ∷ row 6303 (up_to 60) Alnum
    ∷ row 6304 (up_to 60) Alnum
    ∷ row 6305 (up_to 60) Alnum
    ∷ row 6330 (up_to 60) Alnum
    ∷ row 6331 (up_to 60) Alnum
    ∷ row 8000 (exactly 4) Alnum
    ∷ row 8100 (exactly 5) Num
    ∷ row 8315 (exactly 8) Alnum
    ∷ row 8316 (exactly 8) Alnum
    ∷ row 8402 (up_to 6) Alnum
    ∷ row 8410 (up_to 20) Alnum
    ∷ row 8411 (up_to 60) Alnum
    ∷ row 8418 (exactly 1) Alnum
    ∷ row 8420 var Float
    ∷ row 8421 (up_to 60) Alnum
    ∷ row 8428 (up_to 8) Alnum
    ∷ row 8429 (exactly 2) Num
    ∷ row 8430 (up_to 60) Alnum
    ∷ row 8431 (up_to 60) Alnum
    ∷ row 8432 (exactly 8) Rule008
    ∷ row 8437 (up_to 60) Alnum
    ∷ row 8438 (up_to 60) Alnum
    ∷ row 8439 (exactly 6) Rule090
    ∷ row 8460 (up_to 60) Alnum
    ∷ row 8461 var Float
    ∷ row 8462 var Float
    ∷ row 8470 (up_to 60) Alnum
    ∷ row 8480 (up_to 60) Alnum
    ∷ row 8990 (up_to 60) Alnum
    ∷ row 9206 (exactly 1) Charset
    ∷ row 9218 (exactly 5) Version ∷ []

-- no length fits a label that has no row
abbrev pub no_row : FieldRow
no_row = row 0 (record { least = 1; most = 0 }) Alnum

-- the first row with this label, else `no_row` (`let rest`: see Missing)
unfoldable pub field_row_in : List FieldRow → ℕ → FieldRow
field_row_in [] l = no_row
field_row_in (x ∷ xs) l = let rest = field_row_in xs l in cond (eqb l x.label) x rest

unfoldable pub field_row : ℕ → FieldRow
field_row l = field_row_in field_table (row_label l)

-- "Lengths come from the field table"
unfoldable pub has_length : FieldRow → List ℕ → Bool
has_length x c = leb x.least (length c) && leb (length c) x.most

-- not 14, BadContent: "content breaks length, kind or rule"
unfoldable pub fits_row : FieldRow → List ℕ → Bool
fits_row x c = has_length x c && of_kind x.kind c

unfoldable pub fits_label : ℕ → List ℕ → Bool
fits_label l c = fits_row (field_row l) c
