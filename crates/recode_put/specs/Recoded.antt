-- What a buffer holds after each of the writes of recoding. What they mean for the lines of a set is in proofs/RecodedLines of `recode`.
use Rattle.std.specs.Prelude.{List, [], ◌++◌, ℕ, ◌+◌, ◌-◌, length, get_or, take, drop, set, replicate}
use Rattle.meaning.specs.Digits.{digits}
use Rattle.meaning.specs.Field.{field}
use Rattle.meaning.specs.Lines.{line_lead, line_end, line_then}
use Rattle.meaning.specs.Rules.{type_digits}
use Rattle.meaning.specs.Lists.{sum_digits, sum_line, sum_place}
use Rattle.meaning_recode.specs.declared.Code.{Code}
use Rattle.meaning_recode.specs.Recoding.{charset_of}
use Rattle.byte_put.specs.Places.{over}
use Rattle.correct_put.specs.Middle.{replaced}
use Rattle.recode_bytes.specs.Mapped.{mapped}

-- where line 3 stands: after line 1, whose content is the set's type, and the line of the sum
abbrev pub line_three : ℕ
line_three = type_digits + (line_lead + line_end) + sum_line

-- how many bytes the line has that is gained: its content is one byte
abbrev pub gained_bytes : ℕ
gained_bytes = 1 + (line_lead + line_end)

-- b, of which the first `used` bytes count, with zeros after them
unfoldable pub zeroed_after : ℕ → List ℕ → List ℕ
zeroed_after used b = take used b ++ replicate (length b - used) 0

-- with the byte at a place that names the wanted code page
abbrev pub remarked : ℕ → Code → List ℕ → List ℕ
remarked place w b = set b place (get_or (charset_of w) 0 0)

-- with each of the bytes that count become its entry in the table t
unfoldable pub mapped_front : List ℕ → ℕ → List ℕ → List ℕ
mapped_front t used b = mapped t (take used b) ++ drop used b

-- with 9206 as line 3 and the new sum; zeros after the set
unfoldable pub with_line : Code → ℕ → List ℕ → List ℕ
with_line w used b = over sum_place (digits sum_digits (used + gained_bytes)) (replaced line_three 0 (line_then (field 9206 (charset_of w)) []) used b)
