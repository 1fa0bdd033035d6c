-- The walks of `says_seven`, `high_for` and `high_in_set`, over the bytes of a set. What they are for lines that keep the rules is in proofs/SevenMeaning.
use Rattle.std.specs.Prelude.{Bool, cond, not, ◌&&◌, List, ℕ, ◌+◌, length, get_or, leb, eqb}
use Rattle.meaning.specs.declared.Refusal.{Refusal}
use Rattle.meaning.specs.Digits.{digit_zero}
use Rattle.meaning.specs.Refusals.{refusal, high_byte}
use Rattle.meaning.specs.Answers.{no_refusal}
use Rattle.byte_high.specs.High.{first_high}
use Rattle.line_find.specs.FirstPlace.{first_place}

-- the digit 1
abbrev pub seven_bits_digit : ℕ
seven_bits_digit = digit_zero + 1

-- a 9206 line is there, and its content starts with that digit
unfoldable pub says_seven : List ℕ → Bool
says_seven s = not (eqb (first_place s 9206) 0) && eqb (get_or s (first_place s 9206) 0) seven_bits_digit

-- 24 at an offset, if it lies before the end
abbrev pub high_before : ℕ → ℕ → Refusal
high_before end at = cond (leb end at) no_refusal (refusal high_byte at 0)

-- the offset of the first byte over 7Fh of these bytes, if the set s says seven bits; else how many bytes these are
unfoldable pub high_for : List ℕ → List ℕ → ℕ
high_for s b = cond (says_seven s) (first_high b 0 (length b)) (length b)

-- 24 in the bytes of a set
unfoldable pub high_in_set : List ℕ → Refusal
high_in_set s = high_before (length s) (high_for s s)
