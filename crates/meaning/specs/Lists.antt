-- "Field list": turning a set into a list, and writing a set from a list.
use Rattle.std.specs.Prelude.{cond, ◌&&◌, List, [], ◌∷◌, ℕ, pred, ◌+◌, take, leb}
use Rattle.meaning.specs.Limits.{max_entries, max_set_bytes}
use Rattle.meaning.specs.Digits.{digits}
use Rattle.meaning.specs.Field.{Field, field, is_nil}
use Rattle.meaning.specs.Refusals.{Spot, behind, Reply, refused, then_to, refusal, verdict, with_room, empty}
use Rattle.meaning.specs.Pieces.{pieces, put_all}
use Rattle.meaning.specs.Lines.{line_lead, line_end, line_size, size, render}
use Rattle.meaning.specs.Entries.{entry_form, entry_lead, list_size}
use Rattle.meaning.specs.Rules.{type_digits, rule_faults}
use Rattle.meaning.specs.Reading.{read}

-- ---- set to list

-- "8100 has no entry."
abbrev pub without_sum : List Field → List Field
without_sum [] = []
without_sum (f ∷ []) = f ∷ []
without_sum (f ∷ g ∷ fs) = f ∷ fs

-- "Index and list refuse as the set does, then by 22": the list of the set at the front of s, for `room` bytes; other sets may follow (B35)
unfoldable pub list : List ℕ → ℕ → Reply (List ℕ)
list s room =
    then_to (read s) (λ d. with_room (leb (list_size (without_sum d.fields)) room) (list_size (without_sum d.fields)) (put_all entry_form (without_sum d.fields) []))

-- ---- list to set

-- "8100 has five digits"
abbrev pub sum_digits : ℕ
sum_digits = 5

abbrev pub sum_field : ℕ → Field
sum_field n = field 8100 (digits sum_digits n)

-- how many bytes the line of 8100 has
abbrev pub sum_line : ℕ
sum_line = sum_digits + (line_lead + line_end)

-- where in a set these digits stand: after line 1, whose content is the set's type, and the lead of line 2
abbrev pub sum_place : ℕ
sum_place = type_digits + (line_lead + line_end) + line_lead

-- "The writer adds it as line 2", with "the sum of all line lengths of the set, its own included"
abbrev pub with_sum : List Field → List Field
with_sum [] = []
with_sum (f ∷ fs) = f ∷ sum_field (line_size f + (sum_line + size fs)) ∷ fs

-- "Places are offsets in the list, of the entry's first byte, for 6 of the byte", for 24 too; "the place for a missing set field is 0": line 2 has no entry, so the line that has k lines
-- before it is the entry that has one fewer before it; line 1 is the first entry
abbrev pub in_list : List Field → ℕ → Spot → ℕ
in_list es k spot = list_size (take (pred k) es) + behind entry_lead spot

-- "NoRoom, here and in the writer, holds exactly when .. the new total is over the buffer or over 99,999"
abbrev pub set_with_room : List Field → ℕ → Reply (List ℕ)
set_with_room fs room = with_room (leb (size fs) room && leb (size fs) max_set_bytes) (size fs) (render fs [])

-- "then 8, 9, and 11 to 16 as above", and 24 after 16 ("Writer and views follow"); "then 22": line 2 is put in first, so 10 is never given, and "8100, or 8000 after the first entry, is Repeated"
abbrev pub written : ℕ → List Field → Reply (List ℕ)
written room es = then_to (verdict (in_list es) (rule_faults (with_sum es)) (with_sum es)) (λ fs. set_with_room fs room)

-- "1 comes before all"; "It checks entries in order: more than 511 (7), 21, 6": the set of a list, for `room` bytes
unfoldable pub write : List ℕ → ℕ → Reply (List ℕ)
write l room = cond (is_nil l) (refused (refusal empty 0 0)) (then_to (pieces entry_form max_entries 0 l) (λ d. written room d.fields))
