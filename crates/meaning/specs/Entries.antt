-- "Field list": "Entry after entry, nothing between: content length in two bytes, kind in two bytes (the label), both little-endian, then the content."
-- A sheet has entries of the same form (Views).
use Rattle.std.specs.Prelude.{Bool, ◌&&◌, List, [], ◌∷◌, ◌++◌, ℕ, suc, ◌+◌, ◌*◌, ◌/◌, ◌%◌, length, take, drop, get_or, leb}
use Rattle.meaning.specs.Field.{Field, field, is_nil}
use Rattle.meaning.specs.Refusals.{Fault, at_line, ask, bad_list}
use Rattle.meaning.specs.Lines.{low_bytes}
use Rattle.meaning.specs.Pieces.{Form}

-- ---- writing

-- a byte has this many values
abbrev pub byte_values : ℕ
byte_values = 256

-- two bytes, little-endian, and then `t`
abbrev pub two_bytes : ℕ → List ℕ → List ℕ
two_bytes n t = n % byte_values ∷ n / byte_values ∷ t

-- the bytes before the content
abbrev pub entry_lead : ℕ
entry_lead = 4

-- the entry of a field, and then `t`
abbrev pub entry_then : Field → List ℕ → List ℕ
entry_then f t = two_bytes (length f.content) (two_bytes f.label (f.content ++ t))

-- how many bytes the entries of the fields have together
abbrev pub list_size : List Field → ℕ
list_size [] = 0
list_size (f ∷ fs) = (length f.content + entry_lead) + list_size fs

-- ---- reading: the entry at the front of s

abbrev pub two_bytes_at : List ℕ → ℕ → ℕ
two_bytes_at s i = get_or s i 0 + get_or s (suc i) 0 * byte_values

abbrev pub entry_label : List ℕ → ℕ
entry_label s = two_bytes_at s 2

abbrev pub entry_width : List ℕ → ℕ
entry_width s = entry_lead + two_bytes_at s 0

abbrev pub entry_content : List ℕ → List ℕ
entry_content s = take (two_bytes_at s 0) (drop entry_lead s)

abbrev pub entry_field : List ℕ → Field
entry_field s = field (entry_label s) (entry_content s)

-- the entry is not "cut"
abbrev pub entry_whole : List ℕ → Bool
entry_whole s = leb entry_lead (length s) && leb (entry_width s) (length s)

-- the largest number that four digits write
abbrev pub max_label : ℕ
max_label = 9999

-- not 21, BadList: "list entry cut, or label over 9999"
abbrev pub entry_ok : List ℕ → Bool
entry_ok s = entry_whole s && leb (entry_label s) max_label

-- "It checks entries in order: .. 21, 6". Only the first fault is given.
unfoldable pub entry_faults : List ℕ → List Fault
entry_faults s = ask (entry_ok s) (at_line bad_list 0 0) ++ low_bytes 0 0 (entry_content s)

-- the entries of a list
abbrev pub entry_form : Form
entry_form = record { faults = entry_faults; piece = entry_field; width = entry_width; over = is_nil; lead = entry_lead; put = entry_then }
