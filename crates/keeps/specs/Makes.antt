-- What is made of a set: its index, its list, and what a view of it shows; which lists are written and which corrections are made, and what is made of them: the reasons of the paper,
-- each by itself. Stated by the rules of Keeps. proofs/IndexExact, ListExact, WriterExact, CorrectionExact and ViewExact: exactly these are made.
use Rattle.std.specs.Prelude.{◌≡◌, true, List, [], ◌∷◌, ◌≢◌, ◌⊎◌, ◌↔◌, ℕ, suc, pred, ◌+◌, ◌≤◌, ◌<◌, length, take, get_or, Ok}
use Rattle.meaning.specs.declared.SetType.{SetType}
use Rattle.meaning.specs.declared.Entry.{Entry}
use Rattle.meaning.specs.Limits.{max_entries, max_set_bytes}
use Rattle.meaning.specs.Digits.{digits}
use Rattle.meaning.specs.Field.{Field, field, no_field, label_at_line, content_at_line}
use Rattle.meaning.specs.Lines.{least_byte, line_lead, size, offset, render}
use Rattle.meaning.specs.Entries.{entry_lead, entry_then}
use Rattle.meaning.specs.FieldTable.{fits_label}
use Rattle.keeps.specs.Keeps.{IsOdd, InGroup, HasSevenBits, NoHighByte, KeepsRules, Keeps}
use Rattle.meaning.specs.Results.{Viewed, of_set, of_sheet}
use Rattle.meaning.specs.declared.Shown.TheVariants.{Set, Sheet}

-- "Content bytes are 20h to FFh.": none is under 20h; for the other end see `Keeps.NoHighByte`
abbrev pub NoLowByte : List ℕ → Type 0
NoLowByte c = (i : ℕ) → i < length c → least_byte ≤ get_or c i 0

-- 20, the other way round: "line is 8000, 8100 or 9218"; "9206 joins the lines that can't be corrected"
abbrev pub NotFixed : ℕ → Type 0
NotFixed l = (l ≢ 8000) × (l ≢ 8100) × (l ≢ 9206) × (l ≢ 9218)

-- "8100 has five digits, the sum of all line lengths of the set, its own included."
abbrev pub sum_line_of : List Field → Field
sum_line_of fs = field 8100 (digits 5 (size fs))

-- ---- the index

-- line h is the header of line k: k is in its group, or "a name line stands as header of its pair" and k is the odd label after it
abbrev pub HeaderOf : SetType → List Field → ℕ → ℕ → Type 0
HeaderOf t fs h k = InGroup t fs h k ⊎ ((k ≡ suc h) × IsOdd (label_at_line fs k) × (label_at_line fs k ≡ suc (label_at_line fs h)))

-- "One entry for each line holds label, place of its content, its length, and the header's line number, or 0 outside groups and pairs and for a header or name itself."
pub record EntryOf (t : SetType) (fs : List Field) (k : ℕ) (e : Entry) : Type 0 where
  pub label-is : e.label ≡ label_at_line fs k
  pub place_is : e.place ≡ offset fs k + line_lead
  pub length-is : e.length ≡ length (content_at_line fs k)
  -- line numbers count from 1; so the number is 0 exactly if no line is the header
  pub header_is : (h : ℕ) → (e.header ≡ suc h) ↔ HeaderOf t fs h k

-- the set at the front of s has the index es, for which there is room
pub record Indexes (s : List ℕ) (room : ℕ) (es : List Entry) : Type 0 where
  pub set-type : SetType
  pub lines : List Field
  pub rest : List ℕ
  pub keeps : Keeps s set-type lines rest
  -- 22
  pub has_room : length lines ≤ room
  pub as_many : length es ≡ length lines
  pub each : (k : ℕ) (none : Entry) → k < length lines → EntryOf set-type lines k (get_or es k none)

-- ---- the list

-- "Entry after entry, nothing between: content length in two bytes, kind in two bytes (the label), both little-endian, then the content."
abbrev pub entries_of : List Field → List ℕ
entries_of [] = []
entries_of (e ∷ es) = entry_then e (entries_of es)

-- "8100 has no entry.": the set at the front of s has the list l, for which there is room
pub record Lists (s : List ℕ) (room : ℕ) (l : List ℕ) : Type 0 where
  pub set-type : SetType
  pub first-line : Field
  pub sum-line : Field
  pub others : List Field
  pub rest : List ℕ
  pub keeps : Keeps s set-type (first-line ∷ sum-line ∷ others) rest
  pub list-is : l ≡ entries_of (first-line ∷ others)
  -- 22
  pub has_room : length l ≤ room

-- ---- the writer

-- an entry that is not refused by 21 or 6; its length has two bytes
pub record EntryRight (e : Field) : Type 0 where
  pub label-most : e.label ≤ 9999
  pub two_bytes : length e.content < 65536
  pub no-low-byte : NoLowByte e.content

-- the list l is written into `room` bytes as out
pub record Writes (l : List ℕ) (room : ℕ) (out : List ℕ) : Type 0 where
  pub set-type : SetType
  pub first-entry : Field
  pub others : List Field
  pub lines : List Field
  -- 1, 7, 21, 6
  pub list-is : l ≡ entries_of (first-entry ∷ others)
  pub few-entries : length (first-entry ∷ others) ≤ max_entries
  pub entries-right : (k : ℕ) → k < length (first-entry ∷ others) → EntryRight (get_or (first-entry ∷ others) k no_field)
  -- "8100 has no entry. The writer adds it as line 2."
  pub lines_are : lines ≡ first-entry ∷ sum_line_of lines ∷ others
  -- 8, 9, 11 to 16, 24
  pub rules : KeepsRules set-type lines
  -- 22
  pub has_room : size lines ≤ room
  pub not-over : size lines ≤ max_set_bytes
  pub out-is : out ≡ render lines []

-- ---- corrections

-- the lines after content c was given to line number n: that line and the sum are new, all others are as before
pub record NewLines (lines : List Field) (n : ℕ) (c : List ℕ) (new : List Field) : Type 0 where
  pub as_many : length new ≡ length lines
  pub new-content : get_or new (pred n) no_field ≡ field (label_at_line lines (pred n)) c
  pub new-sum : get_or new 1 no_field ≡ sum_line_of new
  pub others-stay : (k : ℕ) → k ≢ pred n → k ≢ 1 → get_or new k no_field ≡ get_or lines k no_field

-- of the buffer b the first `used` bytes are a set; its line number n is given content c, and out then stands at the front
pub record Corrects (b : List ℕ) (used n : ℕ) (c out : List ℕ) : Type 0 where
  pub set-type : SetType
  pub lines : List Field
  pub new : List Field
  -- 18, the set's own rules, and nothing follows it
  pub used-within : used ≤ length b
  pub keeps : Keeps (take used b) set-type lines []
  -- 19: "line number 0 or beyond the set"
  pub line-there : (1 ≤ n) × (n ≤ length lines)
  -- 20
  pub not-fixed : NotFixed (label_at_line lines (pred n))
  -- 6, 14
  pub no-low-byte : NoLowByte c
  pub content-fits : fits_label (label_at_line lines (pred n)) c ≡ true
  -- 24
  pub no-high-byte : HasSevenBits lines → NoHighByte c
  -- 22. "or over 99,999" is left out: 512 lines whose contents fit never have that many bytes (`ruled-total`, SizeLaws in `meaning`). In `Writes` it stands, and decides as little.
  pub new-lines : NewLines lines n c new
  pub has_room : size new ≤ length b
  pub out-is : out ≡ render new []

-- ---- views

-- an entry of a sheet that is not refused by 19, 20, 6, 14 or 24: it names a line that may be corrected, and gives a content that fits there and, if
-- the set holds 9206 with content 1, has no byte over 7Fh
pub record PendingFor (lines : List Field) (e : Field) : Type 0 where
  pub line-there : (1 ≤ e.label) × (e.label ≤ length lines)
  pub not-fixed : NotFixed (label_at_line lines (pred e.label))
  pub no-low-byte : NoLowByte e.content
  pub content-fits : fits_label (label_at_line lines (pred e.label)) e.content ≡ true
  pub no-high-byte : HasSevenBits lines → NoHighByte e.content

-- "the last for a line counts": entry k is the last for line n
abbrev pub LastFor : List Field → ℕ → ℕ → Type 0
LastFor es n k = (k < length es) × (label_at_line es k ≡ n) × ((j : ℕ) → k < j → j < length es → label_at_line es j ≢ n)

-- "the answer is the part of the sheet if the line has an entry there, else the part of the set"
pub data Shown (lines es : List Field) (n : ℕ) (v : Viewed) : Type 0 where
  of-sheet : (k : ℕ) → LastFor es n k
      → v ≡ of_sheet (record { place = length (entries_of (take k es)) + entry_lead; length = length (content_at_line es k) }) → Shown lines es n v
  of-set : ((k : ℕ) → k < length es → label_at_line es k ≢ n)
      → v ≡ of_set (record { place = offset lines (pred n) + line_lead; length = length (content_at_line lines (pred n)) }) → Shown lines es n v

-- a view of line n of the set s under the sheet h shows v
pub record Views (s h : List ℕ) (n : ℕ) (v : Viewed) : Type 0 where
  pub set-type : SetType
  pub lines : List Field
  pub entries : List Field
  -- the set's own rules, and 18: nothing follows it
  pub keeps : Keeps s set-type lines []
  -- 19
  pub line-there : (1 ≤ n) × (n ≤ length lines)
  -- 21, and then 19, 20, 6, 14, 24 of each entry
  pub sheet-is : h ≡ entries_of entries
  pub each_right : (k : ℕ) → k < length entries → PendingFor lines (get_or entries k no_field)
  pub shown : Shown lines entries n v
