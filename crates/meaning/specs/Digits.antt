-- Decimal digits of a fixed width, most significant first, and the number that digits write. Bytes by name.
use Rattle.std.specs.Prelude.{Bool, true, ◌&&◌, List, [], ◌∷◌, ◌++◌, ℕ, zero, suc, ◌+◌, ◌-◌, ◌*◌, ◌/◌, ◌%◌, leb}

abbrev pub digit_zero : ℕ
digit_zero = 48

abbrev pub digit_nine : ℕ
digit_nine = 57

-- the last k digits of n
abbrev pub digits : ℕ → ℕ → List ℕ
digits zero n = []
digits (suc k) n = digits k (n / 10) ++ ((digit_zero + n % 10) ∷ [])

-- "digits" are 30h to 39h
abbrev pub digit : ℕ → Bool
digit b = leb digit_zero b && leb b digit_nine

abbrev pub all_digits : List ℕ → Bool
all_digits [] = true
all_digits (b ∷ bs) = digit b && all_digits bs

-- the number that digits write after digits that wrote a
abbrev pub number_from : ℕ → List ℕ → ℕ
number_from a [] = a
number_from a (b ∷ bs) = number_from (a * 10 + (b - digit_zero)) bs

-- the number that digits write
abbrev pub number : List ℕ → ℕ
number bs = number_from 0 bs
