-- Judging a set: "first 1; then all lines, in order, each by 7, 2, 3, 4, 5, 6; then" the rules (Rules). "Bytes after the set are not judged; a read answers the set's length."
use Rattle.std.specs.Prelude.{cond, List, ℕ, ◌+◌, ◌-◌, length, Err, None, Ok, Some}
use Rattle.meaning.specs.declared.Shape.{Shape}
use Rattle.meaning.specs.Limits.{max_lines, type_number}
use Rattle.meaning.specs.Field.{Field, is_nil}
use Rattle.meaning.specs.Refusals.{Spot, behind, Reply, refused, done, refusal, verdict, empty}
use Rattle.meaning.specs.Pieces.{Parsed, piece_then, pieces}
use Rattle.meaning.specs.Lines.{line_form, line_faults, line_lead, size, offset}
use Rattle.meaning.specs.Rules.{profile, set_faults}
use Rattle.meaning.specs.Results.{Judged, Known}

-- "A set starts at the first byte given", whatever its first line's label is; 1, Empty: "a set or list of no bytes"; 7: "a 513th line starts"
unfoldable pub scan : List ℕ → Reply Parsed
scan s = cond (is_nil s) (refused (refusal empty 0 0)) (piece_then line_form (line_faults s) 0 s (λ p t. pieces line_form (max_lines - 1) p t))

-- the reader's places: offsets in the set
abbrev pub in_set : List Field → ℕ → Spot → ℕ
in_set fs k spot = offset fs k + behind line_lead spot

-- the lines that were scanned, judged by the rules
abbrev pub by_rules : Reply Parsed → Reply Parsed
by_rules (refused r) = refused r
by_rules (done d) = verdict (in_set d.fields) (set_faults d.fields) d

-- the lines of the set at the front of s and the bytes after it, or the refusal
unfoldable pub read : List ℕ → Reply Parsed
read s = by_rules (scan s)

-- ---- what judging answers

-- the number of a set type, 0 for none
abbrev pub known_number : Known → ℕ
known_number (Some t) = type_number t
known_number None = 0

-- "a read answers the set's length", and its lines and type
abbrev pub shape : List Field → Shape
shape fs = record { length = size fs; lines = length fs; settype = known_number (profile fs).set_type }

abbrev pub judged : Reply Parsed → Judged
judged (refused r) = Err r
judged (done d) = Ok (shape d.fields)

unfoldable pub judge : List ℕ → Judged
judge s = judged (read s)
