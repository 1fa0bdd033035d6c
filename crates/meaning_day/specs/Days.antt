-- "A day file, searched by patient" (request E1): the index of a file of sets, a set appended to it, and the sets of a patient.
-- A file is set after set, nothing between. Where the request leaves a choice, the decision is named (E1a ..; docs/DECISIONS.md).
use Rattle.std.specs.Prelude.{Bool, true, false, cond, ◌&&◌, List, [], ◌∷◌, ◌++◌, ℕ, zero, suc, ◌+◌, length, take, drop, leb, eqb}
use Rattle.meaning.specs.Field.{Field, is_nil}
use Rattle.meaning.specs.Refusals.{Reply, refused, done, then_to, refusal, with_room, bad_use, too_many_sets}
use Rattle.meaning.specs.Pieces.{Parsed}
use Rattle.meaning.specs.Lines.{line_lead, line_end, cr, lf, least_byte, size, offset}
use Rattle.meaning.specs.Kinds.{same_bytes}
use Rattle.meaning.specs.Rules.{profile}
use Rattle.meaning.specs.Reading.{read, known_number}
use Rattle.meaning_day.specs.declared.DayEntry.{DayEntry}

-- "at most 2,048 sets"
abbrev pub max_sets : ℕ
max_sets = 2048

-- ---- one set of the file

-- "the 3000 content", the patient's number
abbrev pub patient_label : ℕ
patient_label = 3000

-- how many lines stand before the first one with label l; all, if none has it
unfoldable pub lines_before : ℕ → List Field → ℕ
lines_before l [] = 0
lines_before l (f ∷ fs) = let rest = lines_before l fs in cond (eqb f.label l) 0 (suc rest)

-- where in the set its 3000 content stands
abbrev pub patient_place : List Field → ℕ
patient_place fs = offset fs (lines_before patient_label fs) + line_lead

-- "for each set its offset, length, type and place of the 3000 content": the entry of the set with these lines that stands at offset `at` of the file
unfoldable pub day_entry : ℕ → List Field → DayEntry
day_entry at fs = record { offset = at; length = size fs; settype = known_number (profile fs).set_type; place = at + patient_place fs }

-- "the set's own, placed in the file": what was read at offset `at` of the file, a refusal with its place in the file
abbrev pub placed : ℕ → Reply Parsed → Reply Parsed
placed at (refused r) = refused (refusal r.no (at + r.place) r.label)
placed at (done d) = done d

-- ---- a test

-- refused by number n at place p if the test fails, else what comes after it
abbrev pub must : {A : Type 0} → Bool → ℕ → ℕ → Reply A → Reply A
must true n p k = k
must false n p k = refused (refusal n p 0)

-- ---- building

-- the entries of the sets that stand in s, "in file order"; s starts at offset `at` of the file, and n sets may still come. "TooManySets (23) at the 2,049th": at its
-- offset, after its own refusals, and nothing after it is looked at (E1a). If s has no bytes there is no entry and no refusal: "a file of no bytes has none".
unfoldable pub sets_from : ℕ → ℕ → List ℕ → Reply (List DayEntry)
sets_from zero at s = cond (is_nil s) (done []) (then_to (placed at (read s)) (λ d. refused (refusal too_many_sets at 0)))
sets_from (suc n) at s =
    cond (is_nil s) (done [])
    (then_to (placed at (read s)) (λ d. then_to (sets_from n (at + size d.fields) d.rest) (λ es. done (day_entry at d.fields ∷ es))))

-- "an index kept beside the file": of the file f, for `room` entries; then "NoRoom", with the sets as the need
unfoldable pub build : List ℕ → ℕ → Reply (List DayEntry)
build f room = then_to (sets_from max_sets 0 f) (λ es. with_room (leb (length es) room) (length es) es)

-- ---- appending

-- "Appending a set behind a named old length extends the index of the old file": the file f has a set after its first `old` bytes, and the first `count` of the lent
-- entries are the index so far; they are not looked at (E1d). The lent entries are the room, too. In this order: "18 in appending, as in corrections" (old length over
-- the file, at the file's length), "the set's own, placed in the file", 18 (another set follows, at the appended set's length, E1c), 23 at the old length, 22 with
-- count + 1 as the need.
unfoldable pub append : List ℕ → ℕ → List DayEntry → ℕ → Reply (List DayEntry)
append f old lent count =
    must (leb old (length f)) bad_use (length f)
    (then_to (placed old (read (drop old f))) (λ d.
    must (is_nil d.rest) bad_use (size d.fields)
    (must (leb (count + 1) max_sets) too_many_sets old
    (with_room (leb (count + 1) (length lent)) (count + 1) (take count lent ++ (day_entry old d.fields ∷ []))))))

-- ---- looking up

-- no byte under 20h
abbrev pub no_low : List ℕ → Bool
no_low [] = true
no_low (b ∷ bs) = leb least_byte b && no_low bs

-- "An entry, also of a foreign index, matches where the asked bytes, none under 20h, and 0Dh 0Ah stand at its place.": if fewer bytes stand there, it does not (E1g)
unfoldable pub matches : List ℕ → List ℕ → DayEntry → Bool
matches f c e = no_low c && same_bytes (take (length c + line_end) (drop e.place f)) (c ++ (cr ∷ lf ∷ []))

-- the numbers of those of the entries that match; the first of the entries has number k (E1h)
unfoldable pub found : List ℕ → List ℕ → ℕ → List DayEntry → List ℕ
found f c k [] = []
found f c k (e ∷ es) = let rest = found f c (suc k) es in cond (matches f c e) (k ∷ rest) rest

-- "Lookup answers all sets .., each once, in file order": those of es that match, by their numbers from 1; "NoRoom, from lookup too". That these are the sets "whose 3000
-- content has the same bytes" if the index was built is a theorem (`match-exact` in proofs/LookupLaws).
unfoldable pub lookup : List ℕ → List DayEntry → List ℕ → ℕ → Reply (List ℕ)
lookup f es c room = with_room (leb (length (found f c 1 es)) room) (length (found f c 1 es)) (found f c 1 es)
