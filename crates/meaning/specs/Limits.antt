-- "Limits of a set are named once, with the set's own type", and its five types by number.
-- `SetType::limits`, `SetType::of` and `SetType::number` are proved to say the same as these definitions.
use Rattle.std.specs.Prelude.{cond, ℕ, ◌-◌, eqb, None, Some}
use Rattle.meaning.specs.declared.Limits.{Limits}
use Rattle.meaning.specs.declared.SetType.{SetType}
use Rattle.meaning.specs.declared.SetType.TheVariants.{T6300, T6301, T6302, T6310, T6311}
use Rattle.meaning.specs.Results.{Known}

-- "512 lines"; "A set has at most 512 lines."
abbrev pub max_lines : ℕ
max_lines = 512

-- "999 bytes a line": the largest number that three digits write, so no rule has to test it (`size-most` in proofs/LineLaws)
abbrev pub max_line_bytes : ℕ
max_line_bytes = 999

-- "99,999 bytes a set"
abbrev pub max_set_bytes : ℕ
max_set_bytes = 99999

abbrev pub limits : Limits
limits = record { lines = max_lines; line = max_line_bytes; set = max_set_bytes }

-- "more than 511 (7)": "8100 has no entry", so a list has one entry fewer than its set has lines
abbrev pub max_entries : ℕ
max_entries = max_lines - 1

-- "Sets 6300, 6301, 6302, 6310 and 6311"
unfoldable pub type_of : ℕ → Known
type_of n =
    cond (eqb n 6300) (Some T6300)
    (cond (eqb n 6301) (Some T6301)
    (cond (eqb n 6302) (Some T6302)
    (cond (eqb n 6310) (Some T6310) (cond (eqb n 6311) (Some T6311) None))))

abbrev pub type_number : SetType → ℕ
type_number T6300 = 6300
type_number T6301 = 6301
type_number T6302 = 6302
type_number T6310 = 6310
type_number T6311 = 6311
