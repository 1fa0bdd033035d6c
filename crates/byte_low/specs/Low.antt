-- The walk of `first_low`: the first byte under 20h.
use Rattle.std.specs.Prelude.{List, ℕ, leb}
use Rattle.meaning.specs.Lines.{least_byte}
use Rattle.byte_low.specs.Seek.{first_not}

-- this many bytes are tested at once
abbrev pub block : ℕ
block = 8

-- the offset of the first byte under 20h among the k bytes at an offset, or the offset after them
abbrev pub first_low : List ℕ → ℕ → ℕ → ℕ
first_low s at k = first_not (leb least_byte) s at k
