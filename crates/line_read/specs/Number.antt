-- The walk of `number_at`: what k bytes at an offset write.
-- What they mean is `number_is` in proofs/LineMeaning.
use Rattle.std.specs.Prelude.{cond, ◌&&◌, List, ℕ, zero, suc, ◌+◌, ◌-◌, ◌*◌, length, get_or, leb, Option, None, Some}
use Rattle.meaning.specs.Digits.{digit, digit_zero}

-- what the bytes of a number write: none if one of them is no digit, they are not all there, or they are too many
abbrev pub Number : Type 0
Number = Option ℕ

-- what the k bytes at an offset write after digits that wrote n
unfoldable pub number_after : List ℕ → ℕ → ℕ → ℕ → Number
number_after s n at zero = Some n
number_after s n at (suc k) = cond (digit (get_or s at 0)) (number_after s (n * 10 + (get_or s at 0 - digit_zero)) (at + 1) k) None

-- this many digits write no number that is too large for a usize
abbrev pub most_digits : ℕ
most_digits = 9

-- what the k bytes at an offset write, if they are not too many and all there
unfoldable pub number_at : List ℕ → ℕ → ℕ → Number
number_at s at k = cond (leb k most_digits && leb (at + k) (length s)) (number_after s 0 at k) None
