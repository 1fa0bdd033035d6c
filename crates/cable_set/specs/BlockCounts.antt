-- A set alone in its bytes, as judging answers it, and how many blocks it has by its length and its lines. proofs/AloneSetLaws ties both to `set_alone` and `blocks_of` of the cable's meaning.
use Rattle.std.specs.Prelude.{cond, List, ℕ, ◌+◌, ◌-◌, ◌/◌, leb, Err, Ok}
use Rattle.meaning.specs.declared.Shape.{Shape}
use Rattle.meaning.specs.Field.{Field}
use Rattle.meaning.specs.Refusals.{Reply, refused, done, refusal, bad_use}
use Rattle.meaning.specs.Reading.{shape}
use Rattle.meaning_cable.specs.Blocks.{max_data}
use Rattle.meaning.specs.Results.{Judged}

-- the refusal, or the set's length, lines and type
abbrev pub alone_judged : Reply (List Field) → Judged
alone_judged (refused r) = Err r
alone_judged (done fs) = Ok (shape fs)

-- as the set at the front of this many bytes is judged, and 18 if it does not fill them
abbrev pub alone_of : Judged → ℕ → Judged
alone_of (Err r) n = Err r
alone_of (Ok x) n = cond (leb n x.length) (Ok x) (Err (refusal bad_use x.length 0))

-- how many bytes of data a set has: one less for each line, and one less after the last
abbrev pub data_length : Shape → ℕ
data_length x = x.length - x.lines - 1

-- how many blocks this many bytes of data have
abbrev pub count_for : ℕ → ℕ
count_for n = cond (leb n max_data) 2 ((n + (max_data - 1)) / max_data)
