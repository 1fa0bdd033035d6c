-- The sentences of "Groups" that name labels, held against the tables: which labels are required at set level, which repeat there, and which are a header's members. The set
-- types and the limits as the paper names them.
-- Each is one computed test.
use mathlib.Core.Path.{◌≡◌, refl}
use mathlib.Core.Bool.{Bool, true, cond, not, ◌&&◌}
use mathlib.Core.List.{List, [], ◌∷◌, map}
use Prim.Native.Nat.{ℕ}
use lib.Dec.{eqb}
use Rattle.meaning.specs.declared.Row.{Row}
use Rattle.meaning.specs.declared.SetType.{SetType}
use Rattle.meaning.specs.declared.SetType.TheVariants.{T6300, T6301, T6302, T6310, T6311}
use Rattle.meaning.specs.Limits.{limits, type_of, type_number}
use Rattle.meaning.specs.Tables.{table, set_level}
use Rattle.meaning.specs.Missing.{rows_under, ascending}
use Rattle.meaning.specs.Computes.{computes}
use Rattle.std.specs.Prelude.{Some}

-- the labels of the rows that pass a test, lowest first
abbrev labels_of : (Row → Bool) → List Row → List ℕ
labels_of test [] = []
labels_of test (r ∷ rs) = cond (test r) (r.label ∷ labels_of test rs) (labels_of test rs)

abbrev under : SetType → ℕ → List Row
under t h = ascending (rows_under (table t) h)

-- required, and repeated, under a header or at set level
abbrev required : SetType → ℕ → List ℕ
required t h = labels_of (λ r. r.required) (under t h)

abbrev repeating : SetType → ℕ → List ℕ
repeating t h = labels_of (λ r. r.many) (under t h)

abbrev all : SetType → ℕ → List ℕ
all t h = labels_of (λ r. true) (under t h)

-- "Required at set level: 8000, 8100, 9218, 3000 in all; 3101, 3102, 3103 also in 6301 and 6302; 8402 also in 6310."
required-at-set-level : map (λ t. required t set_level) (T6300 ∷ T6301 ∷ T6302 ∷ T6310 ∷ T6311 ∷ [])
    ≡ (3000 ∷ 8000 ∷ 8100 ∷ 9218 ∷ [])
    ∷ (3000 ∷ 3101 ∷ 3102 ∷ 3103 ∷ 8000 ∷ 8100 ∷ 9218 ∷ [])
    ∷ (3000 ∷ 3101 ∷ 3102 ∷ 3103 ∷ 8000 ∷ 8100 ∷ 9218 ∷ [])
    ∷ (3000 ∷ 8000 ∷ 8100 ∷ 8402 ∷ 9218 ∷ [])
    ∷ (3000 ∷ 8000 ∷ 8100 ∷ 9218 ∷ []) ∷ []
unfolding computes
required-at-set-level = refl

-- "Repeating at set level in 6310: 6205, 6220, 6221, 6226, 6227, 6228, and the headers and pairs above." Elsewhere nothing repeats.
repeating-at-set-level : map (λ t. repeating t set_level) (T6300 ∷ T6301 ∷ T6302 ∷ T6310 ∷ T6311 ∷ [])
    ≡ [] ∷ [] ∷ [] ∷ (6205 ∷ 6220 ∷ 6221 ∷ 6226 ∷ 6227 ∷ 6228 ∷ 6302 ∷ 6330 ∷ 8410 ∷ []) ∷ [] ∷ []
unfolding computes
repeating-at-set-level = refl

-- "Its members are the labels that the table puts under it, 8411 to 8480"
members-of-8410 : all T6310 8410
    ≡ 8411 ∷ 8418 ∷ 8420 ∷ 8421 ∷ 8428 ∷ 8429 ∷ 8430 ∷ 8431 ∷ 8432 ∷ 8437 ∷ 8438 ∷ 8439 ∷ 8460 ∷ 8461 ∷ 8462 ∷ 8470 ∷ 8480 ∷ []
unfolding computes
members-of-8410 = refl

-- "A member repeats inside a group where the table's occurrence is n, as for 8431 and 8438"
repeating-in-8410 : repeating T6310 8410 ≡ 8431 ∷ 8438 ∷ 8470 ∷ 8480 ∷ []
unfolding computes
repeating-in-8410 = refl

-- "In 6310 every 6302 opens a group; 6303, 6304 and 6305 are its members, each required once."
members-of-6302 : all T6310 6302 ≡ required T6310 6302
unfolding computes
members-of-6302 = refl

required-in-6302 : required T6310 6302 ≡ 6303 ∷ 6304 ∷ 6305 ∷ []
unfolding computes
required-in-6302 = refl

repeating-in-6302 : repeating T6310 6302 ≡ []
unfolding computes
repeating-in-6302 = refl

-- "In 6302 sets 8410 is a plain single field. In 6311 sets 8432 and 8439 are plain single fields.": outside 6310 every label stands at set level, and none repeats
abbrev all_at_set_level : List Row → Bool
all_at_set_level [] = true
all_at_set_level (r ∷ rs) = (eqb r.under set_level && not r.many) && all_at_set_level rs

plain-elsewhere : map (λ t. all_at_set_level (table t)) (T6300 ∷ T6301 ∷ T6302 ∷ T6311 ∷ []) ≡ true ∷ true ∷ true ∷ true ∷ []
unfolding computes
plain-elsewhere = refl

-- "Sets 6300, 6301, 6302, 6310 and 6311": the number of a type names it, and these are the numbers
type-back : (t : SetType) → type_of (type_number t) ≡ Some t
unfolding computes
type-back T6300 = refl
type-back T6301 = refl
type-back T6302 = refl
type-back T6310 = refl
type-back T6311 = refl

types_are : map type_number (T6300 ∷ T6301 ∷ T6302 ∷ T6310 ∷ T6311 ∷ []) ≡ 6300 ∷ 6301 ∷ 6302 ∷ 6310 ∷ 6311 ∷ []
types_are = refl

-- "512 lines", "999 bytes a line", "99,999 bytes a set"
limits-are : limits ≡ record { lines = 512; line = 999; set = 99999 }
limits-are = refl
