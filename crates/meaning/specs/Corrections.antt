-- "Corrections": a new content for one line of a set in its buffer.
use Rattle.std.specs.Prelude.{Bool, cond, not, ◌&&◌, ◌||◌, List, [], ◌++◌, ℕ, pred, length, take, set, leb, eqb}
use Rattle.meaning.specs.Field.{Field, field, label_at_line, is_nil}
use Rattle.meaning.specs.Refusals.{Spot, start, byte, Fault, at_line, ask, Reply, refused, then_to, refusal, verdict, bad_use, no_such_line, fixed_line, bad_content}
use Rattle.meaning.specs.Pieces.{Parsed}
use Rattle.meaning.specs.Lines.{offset, low_bytes, high_bytes}
use Rattle.meaning.specs.Rules.{profile, fits, seven_bit}
use Rattle.meaning.specs.Reading.{read}
use Rattle.meaning.specs.Lists.{without_sum, with_sum, set_with_room}

-- 20, FixedLine: "line is 8000, 8100 or 9218", and "9206 joins the lines that can't be corrected", whatever it holds (E2b)
abbrev pub fixed : ℕ → Bool
fixed l = eqb l 8000 || (eqb l 8100 || (eqb l 9206 || eqb l 9218))

-- 18, BadUse: "another set follows (place: first set's length)": all lines of the first set stand before that place
abbrev pub alone_faults : Parsed → List Fault
alone_faults d = ask (is_nil d.rest) (at_line bad_use (length d.fields) 0)

-- 19, NoSuchLine: "line number 0 or beyond the set; place: set length": all lines stand before that place. In a sheet the place is the entry's first byte (B39).
abbrev pub line_number_faults : List Field → ℕ → List Fault
line_number_faults fs n = ask (leb 1 n && leb n (length fs)) (at_line no_such_line (length fs) 0)

-- 24, HighByte: what is wrong with content c of a line that has k lines before it, in a set that holds 9206 with content 1
abbrev pub seven_bit_faults : List Field → ℕ → List ℕ → List Fault
seven_bit_faults fs k c = cond (seven_bit fs) (high_bytes k 0 c) []

-- "19, 20, 6 (place in the new content), 14 (empty included)", and 24 "for a correction or sheet entry after BadContent": what is wrong with content c for line number n.
-- Only the first fault is given.
unfoldable pub change_faults : List Field → ℕ → List ℕ → List Fault
change_faults fs n c =
    line_number_faults fs n
    ++ (ask (not (fixed (label_at_line fs (pred n)))) (at_line fixed_line (pred n) (label_at_line fs (pred n)))
    ++ (low_bytes (pred n) 0 c
    ++ (ask (fits (profile fs) (field (label_at_line fs (pred n)) c)) (at_line bad_content (pred n) (label_at_line fs (pred n)))
    ++ seven_bit_faults fs (pred n) c)))

-- the correction's places: offsets in the buffer, and for 6 and 24 in the new content
abbrev pub in_change : List Field → ℕ → Spot → ℕ
in_change fs k start = offset fs k
in_change fs k (byte i) = i

-- "The new content is written into the middle of the buffer, the lines after it move, its length and 8100 are brought up to date": the lines with content c in the one
-- that has k lines before it
abbrev pub recontent : List Field → ℕ → List ℕ → List Field
recontent fs k c = set fs k (field (label_at_line fs k) c)

-- line 2 computed from the other lines
abbrev pub resum : List Field → List Field
resum fs = with_sum (without_sum fs)

-- the lines after the correction of line number n
abbrev pub changed : List Field → ℕ → List ℕ → List Field
changed fs n c = resum (recontent fs (pred n) c)

abbrev pub correct_lines : ℕ → ℕ → List ℕ → Parsed → Reply (List ℕ)
correct_lines room n c d =
    then_to (verdict (in_change d.fields) (alone_faults d ++ change_faults d.fields n c) (changed d.fields n c)) (λ fs. set_with_room fs room)

-- "A set stands at the front of a longer buffer with its used length. A correction names a line and gives a new content." The set after the correction of line n to
-- content c, by this order: 18 (used length), the set's own refusals, 18 (second set), 19, 20, 6, 14, 24, 22; "used length over the buffer (place: buffer length)"
unfoldable pub correct : List ℕ → ℕ → ℕ → List ℕ → Reply (List ℕ)
correct b used n c =
    cond (leb used (length b)) (then_to (read (take used b)) (λ d. correct_lines (length b) n c d)) (refused (refusal bad_use (length b) 0))
