-- What the index of a day file is, what a set appended to it adds, and which sets a lookup finds: the sentences of request E1, each by itself. Nothing here has an order of tests
-- or a count that goes on; a number in a comment says which refusal a line shuts out. Stated by what a set is in Keeps (crate `keeps`). proofs/BuildExact, AppendExact,
-- LookupExact and MatchExact: exactly these are made. An entry is named by how many stand before it: entry 0 is the first.
use Rattle.std.specs.Prelude.{◌≡◌, List, ◌∷◌, ◌++◌, ◌↔◌, ℕ, zero, suc, ◌+◌, ◌≤◌, ◌<◌, length, drop, get_or}
use Rattle.meaning.specs.declared.SetType.{SetType}
use Rattle.meaning.specs.Limits.{type_number}
use Rattle.meaning.specs.Field.{Field, label_at_line, content_at_line}
use Rattle.meaning.specs.Lines.{line_lead, cr, lf, size, offset}
use Rattle.keeps.specs.Keeps.{Keeps}
use Rattle.keeps.specs.Makes.{NoLowByte}
use Rattle.meaning_day.specs.declared.DayEntry.{DayEntry}
use Rattle.meaning_day.specs.Days.{max_sets}

-- what stands after the last entry
abbrev pub no_entry : DayEntry
no_entry = record { offset = 0; length = 0; settype = 0; place = 0 }

-- the entry that has k before it
abbrev pub entry_at : List DayEntry → ℕ → DayEntry
entry_at es k = get_or es k no_entry

-- ---- the index

-- "for each set its offset, length, type and place of the 3000 content": at the entry's offset of the file stands a set that keeps every rule, and the entry says its length, its
-- type, and where in the file the content of its line with label 3000 stands
pub record SetOf (f : List ℕ) (e : DayEntry) : Type 0 where
  pub set-type : SetType
  pub lines : List Field
  pub rest : List ℕ
  pub keeps : Keeps (drop e.offset f) set-type lines rest
  pub length-is : e.length ≡ size lines
  pub type-is : e.settype ≡ type_number set-type
  pub patient-line : ℕ
  pub a-line : patient-line < length lines
  pub label-is : label_at_line lines patient-line ≡ 3000
  pub place_is : e.place ≡ e.offset + (offset lines patient-line + line_lead)

-- where the entry that has k before it has to start: the first at 0, each next where the one before it ends
abbrev pub start_of : List DayEntry → ℕ → ℕ
start_of es zero = 0
start_of es (suc k) = (entry_at es k).offset + (entry_at es k).length

-- "in file order": the entries are those of the sets in the first p bytes of the file, which they fill with nothing between
pub record SetsUpTo (f : List ℕ) (es : List DayEntry) (p : ℕ) : Type 0 where
  pub within : p ≤ length f
  pub each : (k : ℕ) → k < length es → SetOf f (entry_at es k)
  pub tiled : (k : ℕ) → k < length es → (entry_at es k).offset ≡ start_of es k
  pub to_the_end : start_of es (length es) ≡ p

-- the file has the index es, for which there is room: "at most 2,048 sets; a file of no bytes has none"
pub record Builds (f : List ℕ) (room : ℕ) (es : List DayEntry) : Type 0 where
  pub all-sets : SetsUpTo f es (length f)
  -- 23
  pub few-sets : length es ≤ max_sets
  -- 22
  pub has_room : length es ≤ room

-- ---- appending

-- after its first `old` bytes the file has one set and nothing more; of the lent entries the first n stay, and the set's entry comes after them
pub record Appends (f : List ℕ) (old : ℕ) (lent : List DayEntry) (n : ℕ) (es : List DayEntry) : Type 0 where
  -- 18, and the set's own rules, and 18 again: nothing follows it
  pub old-within : old ≤ length f
  pub new-set : SetOf f (entry_at es n)
  pub at_old : (entry_at es n).offset ≡ old
  pub to_the_end : old + (entry_at es n).length ≡ length f
  -- 23
  pub few-sets : n + 1 ≤ max_sets
  -- 22
  pub has_room : n + 1 ≤ length lent
  pub one-more : length es ≡ n + 1
  pub others-stay : (k : ℕ) → k < n → entry_at es k ≡ entry_at lent k

-- ---- looking up

-- "the asked bytes, none under 20h, and 0Dh 0Ah stand at its place"
pub record Matches (f c : List ℕ) (e : DayEntry) : Type 0 where
  pub no-low-byte : NoLowByte c
  pub before : List ℕ
  pub after : List ℕ
  pub file-is : f ≡ before ++ (c ++ (cr ∷ lf ∷ after))
  pub at_place : length before ≡ e.place

-- n is among the numbers ns
abbrev pub Among : ℕ → List ℕ → Type 0
Among n ns = (i : ℕ) × (i < length ns) × (get_or ns i 0 ≡ n)

-- entry numbers count from 1
abbrev pub MatchNumber : List ℕ → List ℕ → List DayEntry → ℕ → Type 0
MatchNumber f c es n = (k : ℕ) × (n ≡ suc k) × (k < length es) × Matches f c (entry_at es k)

-- "Lookup answers all sets .., each once, in file order": ns are the numbers of the entries that match, and of no others, ascending
pub record Finds (f : List ℕ) (es : List DayEntry) (c ns : List ℕ) : Type 0 where
  pub all-and-only : (n : ℕ) → Among n ns ↔ MatchNumber f c es n
  pub ascending : (i j : ℕ) → i < j → j < length ns → get_or ns i 0 < get_or ns j 0

-- the entry is that of a set whose line with label 3000 has the content c
pub record PatientIs (f : List ℕ) (e : DayEntry) (c : List ℕ) : Type 0 where
  pub its-set : SetOf f e
  pub content-is : c ≡ content_at_line its-set.lines its-set.patient-line

-- n is the number of a set of this patient
abbrev pub PatientNumber : List ℕ → List ℕ → List DayEntry → ℕ → Type 0
PatientNumber f c es n = (k : ℕ) × (n ≡ suc k) × (k < length es) × PatientIs f (entry_at es k) c

-- "Lookup answers all sets whose 3000 content has the same bytes, each once, in file order", of an index that was built: ns are the numbers of these sets, and of no others, ascending
pub record FindsPatient (f : List ℕ) (es : List DayEntry) (c ns : List ℕ) : Type 0 where
  pub all-and-only : (n : ℕ) → Among n ns ↔ PatientNumber f c es n
  pub ascending : (i j : ℕ) → i < j → j < length ns → get_or ns i 0 < get_or ns j 0
