-- Where the lines of a set start, by the lengths that they say. What that is for an accepted set is in proofs/RollLaws.
use Rattle.std.specs.Prelude.{◌≢◌, List, ℕ, zero, suc, ◌+◌, ◌≤◌, ◌<◌, length}
use Rattle.meaning.specs.Lines.{line_lead, line_end}
use Rattle.line_read.specs.Told.{told_length, told_label}

-- where the line starts that has k lines before it, by the lengths that these say
unfoldable pub line_start : List ℕ → ℕ → ℕ
line_start s zero = 0
line_start s (suc k) = line_start s k + (told_length s (line_start s k) + (line_lead + line_end))

-- a label is a number of four digits
abbrev pub label_values : ℕ
label_values = 10000

-- the first n lines of the set s lie within it, and each says a label and a length
pub record Lined (s : List ℕ) (n : ℕ) : Type 0 where
  pub sized : (k : ℕ) → k < n → told_length s (line_start s k) ≢ 0
  pub labelled : (k : ℕ) → k < n → told_label s (line_start s k) < label_values
  pub within : (k : ℕ) → k < n → line_start s (suc k) ≤ length s
