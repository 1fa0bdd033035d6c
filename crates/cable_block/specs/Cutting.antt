-- Where the data of a set are cut, by their length alone. `cut-is` in proofs/CutLaws says that the cuts of an accepted set are these.
use Rattle.std.specs.Prelude.{cond, ℕ, ◌+◌, ◌-◌, ◌*◌, min, leb, eqb}
use Rattle.meaning.specs.Lines.{line_lead, line_end}
use Rattle.meaning.specs.Rules.{type_digits}
use Rattle.meaning_cable.specs.Blocks.{max_data}

-- how many bytes of data line 1 of an accepted set is, `01380006300` or another type's, with the 1Ch after it
abbrev pub first_data : ℕ
first_data = type_digits + (line_lead + line_end) - 1

-- "The data are cut every 128 bytes; a set that would fit one block is cut after its first 1Ch": of n bytes of data, how many stand before block i
unfoldable pub cut_for : ℕ → ℕ → ℕ
cut_for n i = cond (leb n max_data) (cond (eqb i 0) 0 (cond (eqb i 1) first_data n)) (max_data * i)

-- how many stand before the end of block i
unfoldable pub end_for : ℕ → ℕ → ℕ
end_for n i = min (cut_for n (i + 1)) n
