-- The walk of `first_place`: line by line, by the lengths that the lines say. What it is for lines that were read is in proofs/FirstPlaceLaws.
use Rattle.std.specs.Prelude.{Bool, cond, List, ℕ, zero, suc, ◌+◌, length, take, drop, leb}
use Rattle.meaning.specs.Limits.{max_lines}
use Rattle.meaning.specs.Digits.{digits}
use Rattle.meaning.specs.Kinds.{same_bytes}
use Rattle.meaning.specs.Lines.{length_digits, label_digits, line_lead, line_end}
use Rattle.line_read.specs.Told.{told_length}

-- the last four digits of number l stand as the label of the line at an offset
unfoldable pub label_stands : ℕ → List ℕ → ℕ → Bool
label_stands l s at = same_bytes (take label_digits (drop (at + length_digits) s)) (digits label_digits l)

-- where the content of the first line with label l stands, among the n lines from an offset on; 0 if there is none
unfoldable pub place_from : ℕ → List ℕ → ℕ → ℕ → ℕ
place_from l s at zero = 0
place_from l s at (suc n) =
    cond (leb (at + line_lead) (length s))
    (let rest = place_from l s (at + (told_length s at + (line_lead + line_end))) n in cond (label_stands l s at) (at + line_lead) rest) 0

-- among all lines of a set
abbrev pub first_place : List ℕ → ℕ → ℕ
first_place s l = place_from l s 0 max_lines
