-- What a buffer holds with bytes in its middle replaced, and with the content of a line.
-- What `recontented` means for the lines of a set is `lines-changed` in proofs/LineChange of `correct`.
use Rattle.std.specs.Prelude.{List, ◌++◌, ℕ, ◌+◌, ◌-◌, length, take, drop, replicate}
use Rattle.meaning.specs.Digits.{digits}
use Rattle.meaning.specs.Lines.{length_digits, line_lead, line_end}
use Rattle.meaning.specs.Lists.{sum_digits, sum_place}
use Rattle.byte_put.specs.Places.{over}

-- b, of which the first `used` bytes count, with the `old` bytes at an offset replaced by others; zeros from its new end on
unfoldable pub replaced : (at old : ℕ) → List ℕ → ℕ → List ℕ → List ℕ
replaced at old new used b =
    take at b
    ++ (new ++ (take (used - (at + old)) (drop (at + old) b)
    ++ replicate (length b - (at + length new + (used - (at + old)))) 0))

-- how many bytes count with those of the content replaced
abbrev pub new_total : (old : ℕ) → List ℕ → ℕ → ℕ
new_total old c used = used - old + length c

-- b with the content of the line at an offset replaced, and with it the line's length and the sum
unfoldable pub recontented : (place old : ℕ) → List ℕ → ℕ → List ℕ → List ℕ
recontented place old c used b =
    over sum_place (digits sum_digits (new_total old c used))
    (over place (digits length_digits (length c + (line_lead + line_end)))
    (replaced (place + line_lead) old c used b))
