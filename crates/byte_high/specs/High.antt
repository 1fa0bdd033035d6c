-- The walk of `first_high`: the first byte over 7Fh.
use Rattle.std.specs.Prelude.{Bool, List, ℕ, leb, length}
use Rattle.meaning.specs.Lines.{most_seven_bits}
use Rattle.byte_low.specs.Seek.{first_not}

-- a byte that is not over 7Fh
abbrev pub seven_bits : ℕ → Bool
seven_bits b = leb b most_seven_bits

-- the offset of the first byte over 7Fh among the k bytes at an offset, or the offset after them
abbrev pub first_high : List ℕ → ℕ → ℕ → ℕ
first_high s at k = first_not seven_bits s at k

-- how many bytes are in front of the first one over 7Fh; all, if there is none
abbrev pub plain_front : List ℕ → ℕ
plain_front s = first_high s 0 (length s)
