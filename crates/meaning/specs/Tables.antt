-- The five set tables (chapter 3 of the QMS description), row by row in the order printed there, and the row of a label.
-- 6330 stands for the names 6330 to 6398, 6331 for the odd labels 6331 to 6399.
--
-- Document 002 decides. It has lost the page of 6310 with the rows 6200 to 8421, which are document 000's, and the level columns of the rows after them, which the rules
-- paper gives ("8411 to 8480" are members of 8410, "deeper levels are not kept apart"); 8990 then stands at set level (B16). A label that is printed m, required on a
-- condition, is written so: 6303 to 6305 and the odd labels are M under their header or name ("each required once"); 8421 and 8437 are K here and required by Missing; 8410
-- is K, since a member without it is Stray (B14). 8431 is printed 1 in one column and n in another: "as for 8431 and 8438" it repeats.
--
-- Three cells of document 000's page are read by judgement, since the paper does not name them: 8411 is printed `V`, which is no mark of that column, beside what is left of
-- a condition: K. 8428 is printed `K K`: K. 8437 has a stray mark in its fourth column, which is passed over.
use Rattle.std.specs.Prelude.{Bool, true, false, cond, ◌&&◌, List, [], ◌∷◌, ℕ, ◌+◌, ◌%◌, leb, eqb}
use Rattle.std.proofs.Math.Option.{Option, none, some}
use Rattle.meaning.specs.declared.Row.{Row}
use Rattle.meaning.specs.declared.SetType.{SetType}
use Rattle.meaning.specs.declared.SetType.TheVariants.{T6300, T6301, T6302, T6310, T6311}

-- ---- how a row is written: label, header, occurrence, M or K

-- the header of a label that stands at set level; a member has its header's label there
abbrev pub set_level : ℕ
set_level = 0

-- occurrence 1 and n
abbrev pub single : Bool
single = false

abbrev pub repeats : Bool
repeats = true

-- required, at set level or in every group of its header; and not required, or only on a condition
abbrev pub M : Bool
M = true

abbrev pub K : Bool
K = false

abbrev pub row : ℕ → ℕ → Bool → Bool → Row
row l header occurrence need = record { label = l; under = header; many = occurrence; required = need }

-- ---- the rows

unfoldable pub rows6300 : List Row
rows6300 =
    row 8000 set_level single M
    ∷ row 8100 set_level single M
    ∷ row 8315 set_level single K
    ∷ row 8316 set_level single K
    ∷ row 9206 set_level single K
    ∷ row 9218 set_level single M
    ∷ row 3000 set_level single M ∷ []

unfoldable pub rows6301 : List Row
rows6301 =
    row 8000 set_level single M
    ∷ row 8100 set_level single M
    ∷ row 8315 set_level single K
    ∷ row 8316 set_level single K
    ∷ row 9206 set_level single K
    ∷ row 9218 set_level single M
    ∷ row 3000 set_level single M
    ∷ row 3100 set_level single K
    ∷ row 3101 set_level single M
    ∷ row 3102 set_level single M
    ∷ row 3103 set_level single M
    ∷ row 3104 set_level single K
    ∷ row 3105 set_level single K
    ∷ row 3106 set_level single K
    ∷ row 3107 set_level single K
    ∷ row 3108 set_level single K
    ∷ row 3110 set_level single K
    ∷ row 3622 set_level single K
    ∷ row 3623 set_level single K
    ∷ row 3628 set_level single K ∷ []

unfoldable pub rows6302 : List Row
rows6302 =
    row 8000 set_level single M
    ∷ row 8100 set_level single M
    ∷ row 8315 set_level single K
    ∷ row 8316 set_level single K
    ∷ row 9206 set_level single K
    ∷ row 9218 set_level single M
    ∷ row 102 set_level single K
    ∷ row 103 set_level single K
    ∷ row 132 set_level single K
    ∷ row 3000 set_level single M
    ∷ row 3100 set_level single K
    ∷ row 3101 set_level single M
    ∷ row 3102 set_level single M
    ∷ row 3103 set_level single M
    ∷ row 3104 set_level single K
    ∷ row 3105 set_level single K
    ∷ row 3106 set_level single K
    ∷ row 3107 set_level single K
    ∷ row 3108 set_level single K
    ∷ row 3110 set_level single K
    ∷ row 3622 set_level single K
    ∷ row 3623 set_level single K
    ∷ row 3628 set_level single K
    ∷ row 8402 set_level single K
    ∷ row 8410 set_level single K ∷ []

unfoldable pub rows6310 : List Row
rows6310 =
    row 8000 set_level single M
    ∷ row 8100 set_level single M
    ∷ row 8315 set_level single K
    ∷ row 8316 set_level single K
    ∷ row 9206 set_level single K
    ∷ row 9218 set_level single M
    ∷ row 102 set_level single K
    ∷ row 103 set_level single K
    ∷ row 132 set_level single K
    ∷ row 3000 set_level single M
    ∷ row 3100 set_level single K
    ∷ row 3101 set_level single K
    ∷ row 3102 set_level single K
    ∷ row 3103 set_level single K
    ∷ row 3104 set_level single K
    ∷ row 3105 set_level single K
    ∷ row 3106 set_level single K
    ∷ row 3107 set_level single K
    ∷ row 3108 set_level single K
    ∷ row 3110 set_level single K
    ∷ row 3622 set_level single K
    ∷ row 3623 set_level single K
    ∷ row 3628 set_level single K
    ∷ row 8402 set_level single M
    ∷ row 6200 set_level single K
    ∷ row 6201 set_level single K
    ∷ row 6205 set_level repeats K
    ∷ row 6220 set_level repeats K
    ∷ row 6221 set_level repeats K
    ∷ row 6227 set_level repeats K
    ∷ row 6226 set_level repeats K
    ∷ row 6228 set_level repeats K
    ∷ row 6302 set_level repeats K
    ∷ row 6303 6302 single M
    ∷ row 6304 6302 single M
    ∷ row 6305 6302 single M
    ∷ row 6330 set_level repeats K
    ∷ row 6331 6330 single M
    ∷ row 8410 set_level repeats K
    ∷ row 8411 8410 single K
    ∷ row 8428 8410 single K
    ∷ row 8429 8410 single K
    ∷ row 8430 8410 single K
    ∷ row 8431 8410 repeats K
    ∷ row 8437 8410 single K
    ∷ row 8438 8410 repeats K
    ∷ row 8418 8410 single K
    ∷ row 8420 8410 single K
    ∷ row 8421 8410 single K
    ∷ row 8432 8410 single K
    ∷ row 8439 8410 single K
    ∷ row 8460 8410 single K
    ∷ row 8461 8410 single K
    ∷ row 8462 8410 single K
    ∷ row 8470 8410 repeats K
    ∷ row 8480 8410 repeats K
    ∷ row 8990 set_level single K ∷ []

unfoldable pub rows6311 : List Row
rows6311 =
    row 8000 set_level single M
    ∷ row 8100 set_level single M
    ∷ row 8315 set_level single K
    ∷ row 8316 set_level single K
    ∷ row 9206 set_level single K
    ∷ row 9218 set_level single M
    ∷ row 3000 set_level single M
    ∷ row 3100 set_level single K
    ∷ row 3101 set_level single K
    ∷ row 3102 set_level single K
    ∷ row 3103 set_level single K
    ∷ row 3104 set_level single K
    ∷ row 6200 set_level single K
    ∷ row 6201 set_level single K
    ∷ row 8402 set_level single K
    ∷ row 8432 set_level single K
    ∷ row 8439 set_level single K ∷ []

-- "one per set type"
unfoldable pub table : SetType → List Row
table T6300 = rows6300
table T6301 = rows6301
table T6302 = rows6302
table T6310 = rows6310
table T6311 = rows6311

-- ---- the row of a label

-- "Even labels 6330 to 6398 are names", the odd labels 6331 to 6399 their contents
abbrev pub is_pair_label : ℕ → Bool
is_pair_label l = leb 6330 l && leb l 6399

-- the label that a label's row is printed under
unfoldable pub row_label : ℕ → ℕ
row_label l = cond (is_pair_label l) (6330 + l % 2) l

-- the first row that is printed under this label (`let rest`: see Missing)
unfoldable pub find_in : List Row → ℕ → Option Row
find_in [] l = none
find_in (r ∷ rs) l = let rest = find_in rs l in cond (eqb l r.label) (some r) rest

-- the row of a label in a set's table; none: the label is "not in the set's table"
unfoldable pub find : List Row → ℕ → Option Row
find rs l = find_in rs (row_label l)
