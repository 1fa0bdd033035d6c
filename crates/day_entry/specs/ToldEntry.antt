-- The walks of this crate: what the bytes of a set that was judged before say. What they are for an accepted set is `entry-told` in proofs/ToldEntryLaws.
use Rattle.std.specs.Prelude.{List, ℕ, ◌+◌, drop, None, Some}
use Rattle.meaning.specs.Lines.{line_lead}
use Rattle.meaning.specs.Rules.{type_digits}
use Rattle.meaning.specs.Lists.{sum_digits, sum_place}
use Rattle.line_read.specs.Number.{number_at, Number}
use Rattle.line_find.specs.FirstPlace.{first_place}
use Rattle.meaning_day.specs.declared.DayEntry.{DayEntry}
use Rattle.meaning_day.specs.Days.{patient_label}

-- a number, 0 if there is none
abbrev pub or_zero : Number → ℕ
or_zero (Some n) = n
or_zero None = 0

-- what k bytes at an offset write
unfoldable pub number_in : List ℕ → ℕ → ℕ → ℕ
number_in s at k = or_zero (number_at s at k)

-- the entry of the set at an offset of the file: its length by 8100, its type by 8000, the place by the first 3000 line
unfoldable pub told_entry : List ℕ → ℕ → DayEntry
told_entry f at = record {
  offset = at;
  length = number_in (drop at f) sum_place sum_digits;
  settype = number_in (drop at f) line_lead type_digits;
  place = at + first_place (drop at f) patient_label;
}
