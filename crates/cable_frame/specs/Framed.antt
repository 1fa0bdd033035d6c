-- The block whose data are read off the bytes of a set.
use Rattle.std.specs.Prelude.{List, ℕ}
use Rattle.meaning_cable.specs.Blocks.{block_bytes}
use Rattle.cable_data.specs.Carried.{data_from}

-- with this count and label, and the n bytes of data from an offset of s on
abbrev pub framed : ℕ → ℕ → List ℕ → ℕ → ℕ → List ℕ
framed count label s from n = block_bytes count label (data_from s from n)
