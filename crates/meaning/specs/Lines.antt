-- "Line and set": how a line is written, what is wrong with the line at the front of some bytes (2 to 6), the bytes of 24, where a set ends.
use Rattle.std.specs.Prelude.{Bool, ◌&&◌, ◌||◌, List, [], ◌∷◌, ◌++◌, ℕ, suc, ◌+◌, ◌-◌, length, take, drop, get_or, leb, eqb}
use Rattle.meaning.specs.Digits.{digits, number, all_digits}
use Rattle.meaning.specs.Field.{Field, field, is_nil}
use Rattle.meaning.specs.Refusals.{Fault, at_line, at_byte, ask, bad_length, cut_line, bad_end, bad_label, bad_byte, high_byte}
use Rattle.meaning.specs.Pieces.{Form, put_all}

-- ---- writing

-- "A line is three digits (its whole length), four digits (label), content, 0Dh 0Ah."
abbrev pub length_digits : ℕ
length_digits = 3

abbrev pub label_digits : ℕ
label_digits = 4

abbrev pub cr : ℕ
cr = 13

abbrev pub lf : ℕ
lf = 10

-- the bytes before the content, and those after it
abbrev pub line_lead : ℕ
line_lead = length_digits + label_digits

abbrev pub line_end : ℕ
line_end = 2

-- "Length = content + 9."
abbrev pub line_size : Field → ℕ
line_size f = length f.content + (line_lead + line_end)

-- the line of a field, and then `t`
abbrev pub line_then : Field → List ℕ → List ℕ
line_then f t = digits length_digits (line_size f) ++ (digits label_digits f.label ++ (f.content ++ (cr ∷ lf ∷ t)))

-- how many bytes the lines of the fields have together
abbrev pub size : List Field → ℕ
size [] = 0
size (f ∷ fs) = line_size f + size fs

-- the offset of the line that has k lines before it; with all lines before it, the set's length
abbrev pub offset : List Field → ℕ → ℕ
offset fs k = size (take k fs)

-- ---- reading: the line at the front of s

abbrev pub size_at : List ℕ → ℕ
size_at s = number (take length_digits s)

abbrev pub label_at : List ℕ → ℕ
label_at s = number (take label_digits (drop length_digits s))

abbrev pub content_at : List ℕ → List ℕ
content_at s = take (size_at s - (line_lead + line_end)) (drop line_lead s)

abbrev pub field_at : List ℕ → Field
field_at s = field (label_at s) (content_at s)

-- "Content has 1 byte or more, so lengths run 010 to 999."
abbrev pub min_line_bytes : ℕ
min_line_bytes = 10

-- not 2, BadLength: "under three bytes remain, not digits, or below 010"
abbrev pub length_ok : List ℕ → Bool
length_ok s = leb length_digits (length s) && (all_digits (take length_digits s) && leb min_line_bytes (size_at s))

-- not 3, CutLine: "the line runs past the input"
abbrev pub whole_ok : List ℕ → Bool
whole_ok s = leb (size_at s) (length s)

-- not 4, BadEnd: "last two bytes are not 0Dh 0Ah"
abbrev pub end_ok : List ℕ → Bool
end_ok s = eqb (get_or s (size_at s - 2) 0) cr && eqb (get_or s (size_at s - 1) 0) lf

-- not 5, BadLabel: "label not four digits"
abbrev pub label_ok : List ℕ → Bool
label_ok s = all_digits (take label_digits (drop length_digits s))

-- "Content bytes are 20h to FFh." No byte is over FFh. In a set with 9206 = 1 they end at 7Fh (24, `Rules.high_faults`).
abbrev pub least_byte : ℕ
least_byte = 32

-- 6, BadByte: "content byte under 20h; place is that byte": a fault for each such byte of a content from its byte i on, in the line that has k lines before it
abbrev pub low_bytes : ℕ → ℕ → List ℕ → List Fault
low_bytes k i [] = []
low_bytes k i (b ∷ bs) = ask (leb least_byte b) (at_byte bad_byte k i) ++ low_bytes k (suc i) bs

-- "no content byte anywhere in it may exceed 7Fh"
abbrev pub most_seven_bits : ℕ
most_seven_bits = 127

-- 24, HighByte: a fault for each byte over 7Fh of a content; k and i as in `low_bytes`
abbrev pub high_bytes : ℕ → ℕ → List ℕ → List Fault
high_bytes k i [] = []
high_bytes k i (b ∷ bs) = ask (leb b most_seven_bits) (at_byte high_byte k i) ++ high_bytes k (suc i) bs

-- what is wrong with the line at the front: "each by .. 2, 3, 4, 5, 6". A test may rely on those before it; only the first fault is given.
unfoldable pub line_faults : List ℕ → List Fault
line_faults s =
    ask (length_ok s) (at_line bad_length 0 0)
    ++ (ask (whole_ok s) (at_line cut_line 0 0)
    ++ (ask (end_ok s) (at_line bad_end 0 0)
    ++ (ask (label_ok s) (at_line bad_label 0 0)
    ++ low_bytes 0 0 (content_at s))))

-- ---- where a set ends

-- "seven or more bytes remain and bytes four to seven read `8000`", whatever the three bytes before them are (B1)
abbrev pub starts_set : List ℕ → Bool
starts_set s = leb line_lead (length s) && (label_ok s && eqb (label_at s) 8000)

-- "It ends before the first later line start where [a set starts], else at the end of the input."
abbrev pub set_over : List ℕ → Bool
set_over s = is_nil s || starts_set s

-- the form of a set's lines; before each line but the first the scan asks whether the set is over
abbrev pub line_form : Form
line_form = record { faults = line_faults; piece = field_at; width = size_at; over = set_over; lead = line_lead; put = line_then }

-- the lines of the fields, and then `t`
abbrev pub render : List Field → List ℕ → List ℕ
render fs t = put_all line_form fs t
