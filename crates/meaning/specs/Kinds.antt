-- "Content kinds": each kind with a test of its own. A test says what the bytes must be; the field table says how many there must be (FieldTable).
use Rattle.std.specs.Prelude.{Bool, true, false, cond, ◌&&◌, List, [], ◌∷◌, ◌++◌, map, ℕ, ◌+◌, ◌-◌, ◌*◌, drop, get_or, leb, eqb}
use Rattle.meaning.specs.declared.Kind.{Kind}
use Rattle.meaning.specs.declared.Kind.TheVariants.{Alnum, Num, Float, Rule020, Rule008, Rule090, Rule112, Rule116, Charset, Version}
use Rattle.meaning.specs.Digits.{digits, digit, digit_zero, all_digits}
use Rattle.meaning.specs.Field.{elem}

-- "alnum: any content bytes."
unfoldable pub is_alnum : List ℕ → Bool
is_alnum c = true

-- "num: digits only."
unfoldable pub is_num : List ℕ → Bool
is_num c = all_digits c

-- ---- "float: optional `-`, one or more digits, optionally `.` and one or more digits."

abbrev pub minus : ℕ
minus = 45

abbrev pub point : ℕ
point = 46

-- one or more digits, then nothing
unfoldable pub decimals : List ℕ → Bool
decimals [] = false
decimals (b ∷ bs) = all_digits (b ∷ bs)

-- digits, then nothing, or a point and one or more digits (`let rest`: see Missing)
unfoldable pub whole : List ℕ → Bool
whole [] = true
whole (b ∷ bs) = let rest = whole bs in cond (digit b) rest (eqb b point && decimals bs)

-- one or more digits, then nothing, or a point and one or more digits
unfoldable pub unsigned : List ℕ → Bool
unsigned [] = false
unsigned (b ∷ bs) = digit b && whole bs

unfoldable pub is_float : List ℕ → Bool
is_float [] = false
is_float (b ∷ bs) = cond (eqb b minus) (unsigned bs) (unsigned (b ∷ bs))

-- ---- dates and times

-- what stands for bytes that are no digits: over every bound below. So `leb (two_at c 0) 31` is "two digits, 00 to 31", and `leb (two_at c 0) 99` is "two digits".
abbrev pub no_number : ℕ
no_number = 100

-- the number that bytes i and i + 1 write, if both are digits: of `31121999` it is 31 at 0, 12 at 2 and 19 at 4; of `3a` it is 100 at 0
unfoldable pub two_at : List ℕ → ℕ → ℕ
two_at c i = cond (digit (get_or c i 0) && digit (get_or c (i + 1) 0)) ((get_or c i 0 - digit_zero) * 10 + (get_or c (i + 1) 0 - digit_zero)) no_number

-- "Rule 020 (3103): DDMMYYYY, DD 00 to 31, MM 00 to 12."
unfoldable pub is_rule020 : List ℕ → Bool
is_rule020 c = leb (two_at c 0) 31 && (leb (two_at c 2) 12 && all_digits (drop 4 c))

-- "Rule 008: DD 01 to 31, MM 01 to 12, months not counted out."
unfoldable pub is_rule008 : List ℕ → Bool
is_rule008 c = leb 1 (two_at c 0) && (leb 1 (two_at c 2) && is_rule020 c)

-- "Rule 090: HHMMSS, HH 00 to 24, MM and SS 00 to 59."
unfoldable pub is_rule090 : List ℕ → Bool
is_rule090 c = leb (two_at c 0) 24 && (leb (two_at c 2) 59 && leb (two_at c 4) 59)

-- ---- choices: one digit of a few. The first byte is looked at; that it is the only one, the field table says (length 1)

unfoldable pub first_is_in : List ℕ → List ℕ → Bool
first_is_in ds c = elem (get_or c 0 0) (map (λ (d : ℕ). digit_zero + d) ds)

-- "Rule 112 (3110): 1 or 2."
unfoldable pub is_rule112 : List ℕ → Bool
is_rule112 c = first_is_in (1 ∷ 2 ∷ []) c

-- "Rule 116 (3108): 1, 3 or 5."
unfoldable pub is_rule116 : List ℕ → Bool
is_rule116 c = first_is_in (1 ∷ 3 ∷ 5 ∷ []) c

-- "9206: 1, 2 or 3."
unfoldable pub is_charset : List ℕ → Bool
is_charset c = first_is_in (1 ∷ 2 ∷ 3 ∷ []) c

-- ---- the version

-- "9218: two digits, point, two digits"
unfoldable pub is_version : List ℕ → Bool
is_version c = leb (two_at c 0) 99 && (eqb (get_or c 2 0) point && leb (two_at c 3) 99)

-- the same bytes
unfoldable pub same_bytes : List ℕ → List ℕ → Bool
same_bytes [] [] = true
same_bytes [] (d ∷ ds) = false
same_bytes (c ∷ cs) [] = false
same_bytes (c ∷ cs) (d ∷ ds) = eqb c d && same_bytes cs ds

-- "only `02.10` is read"
unfoldable pub is0210 : List ℕ → Bool
is0210 c = same_bytes c (digits 2 2 ++ (point ∷ digits 2 10))

-- ---- each kind with its test

unfoldable pub of_kind : Kind → List ℕ → Bool
of_kind Alnum c = is_alnum c
of_kind Num c = is_num c
of_kind Float c = is_float c
of_kind Rule020 c = is_rule020 c
of_kind Rule008 c = is_rule008 c
of_kind Rule090 c = is_rule090 c
of_kind Rule112 c = is_rule112 c
of_kind Rule116 c = is_rule116 c
of_kind Charset c = is_charset c
of_kind Version c = is_version c
