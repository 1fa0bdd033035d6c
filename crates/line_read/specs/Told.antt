-- The walks of `told_length` and `told_label`: what the bytes of a line that was read before say, without a test of its digits, its end or its content.
-- What they are for a line that is read is `read_told` in proofs/ToldLaws.
use Rattle.std.specs.Prelude.{cond, List, [], ◌∷◌, ℕ, ◌+◌, ◌-◌, ◌*◌, length, get_or, leb}
use Rattle.meaning.specs.Digits.{digit_zero}
use Rattle.meaning.specs.Lines.{length_digits, line_lead, line_end}

-- what bytes come to after a number, each times the value of its digit
abbrev pub bytes_from : ℕ → List ℕ → ℕ
bytes_from n [] = n
bytes_from n (b ∷ bs) = bytes_from (n * 10 + b) bs

-- three bytes at an offset, each times the value of its digit, and what `000` comes to
abbrev pub three_bytes : List ℕ → ℕ → ℕ
three_bytes s at = get_or s at 0 * 100 + get_or s (at + 1) 0 * 10 + get_or s (at + 2) 0

abbrev pub three_zeros : ℕ
three_zeros = digit_zero * 111

-- four bytes, and what `0000` comes to
abbrev pub four_bytes : List ℕ → ℕ → ℕ
four_bytes s at = get_or s at 0 * 1000 + get_or s (at + 1) 0 * 100 + get_or s (at + 2) 0 * 10 + get_or s (at + 3) 0

abbrev pub four_zeros : ℕ
four_zeros = digit_zero * 1111

-- the length of the content, by three bytes: less what `000` and the line's frame come to
unfoldable pub told_length : List ℕ → ℕ → ℕ
told_length s at = cond (leb (at + line_lead) (length s)) (three_bytes s at - (three_zeros + (line_lead + line_end))) 0

-- the label, by the four bytes after these: less what `0000` comes to
unfoldable pub told_label : List ℕ → ℕ → ℕ
told_label s at = cond (leb (at + line_lead) (length s)) (four_bytes s (at + length_digits) - four_zeros) 0
