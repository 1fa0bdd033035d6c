-- The three calls of the day file as a caller sees them: what each answers, and every number of the lent slice afterwards, refusals too. The index is lent as numbers, four a set
-- (E1i).
use Rattle.std.specs.Prelude.{List, [], ◌∷◌, ℕ, length}
use Rattle.meaning.specs.Refusals.{Reply, done, then_to}
use Rattle.meaning.specs.Answers.{Call, made, entries_left}
use Rattle.meaning_day.specs.declared.DayEntry.{DayEntry}
use Rattle.meaning_day.specs.Days.{build, append, lookup}

-- the numbers of an index: "offset, length, type and place of the 3000 content", set after set
abbrev pub columns : List DayEntry → List ℕ
columns [] = []
columns (e ∷ es) = e.offset ∷ e.length ∷ e.settype ∷ e.place ∷ columns es

-- the entries in a slice of numbers: only whole fours count, a rest of one to three numbers is none
unfoldable pub entries_in : List ℕ → List DayEntry
entries_in [] = []
entries_in (a ∷ []) = []
entries_in (a ∷ b ∷ []) = []
entries_in (a ∷ b ∷ c ∷ []) = []
entries_in (a ∷ b ∷ c ∷ d ∷ ns) = record { offset = a; length = b; settype = c; place = d } ∷ entries_in ns

-- the lent numbers afterwards: those of the index at the front, and all others as they were; after a refusal all
abbrev pub index_left : Reply (List DayEntry) → List ℕ → List ℕ
index_left r b = entries_left (then_to r (λ es. done (columns es))) b

-- the room is the entries that the lent numbers hold
abbrev pub build_call : List ℕ → List ℕ → Call ℕ
build_call f index = record { answer = made (build f (length (entries_in index))); buffer = index_left (build f (length (entries_in index))) index }

-- the lent numbers are the old index, and the room
abbrev pub append_call : List ℕ → ℕ → List ℕ → ℕ → Call ℕ
append_call f old index count = record { answer = made (append f old (entries_in index) count); buffer = index_left (append f old (entries_in index) count) index }

-- every entry of the index that is lent is asked; the room is the numbers that are lent to be written
abbrev pub lookup_call : List ℕ → List ℕ → List ℕ → List ℕ → Call ℕ
lookup_call f index c out = record { answer = made (lookup f (entries_in index) c (length out)); buffer = entries_left (lookup f (entries_in index) c (length out)) out }
