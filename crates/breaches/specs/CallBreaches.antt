-- The refusals of index, list and correction, each by itself: number, place and label. Each reason is stated with what comes before it in the paper's order being right, so that two
-- never hold of one input. Stated by Breaches, and by Keeps and Makes of crate `keeps`. proofs/CallExact: exactly these are given.
use Rattle.std.specs.Prelude.{◌≡◌, true, false, List, [], ◌⊎◌, ◌≢◌, ℕ, pred, ◌≤◌, ◌<◌, length, take, get_or}
use Rattle.meaning.specs.declared.Refusal.{Refusal}
use Rattle.meaning.specs.declared.Shape.{Shape}
use Rattle.meaning.specs.declared.SetType.{SetType}
use Rattle.meaning.specs.Field.{Field, label_at_line}
use Rattle.meaning.specs.Refusals.{refusal, bad_byte, bad_content, bad_use, no_such_line, fixed_line, no_room, high_byte}
use Rattle.meaning.specs.Lines.{least_byte, most_seven_bits, size, offset}
use Rattle.meaning.specs.FieldTable.{fits_label}
use Rattle.keeps.specs.Keeps.{HasSevenBits, NoHighByte, Keeps, SetAtFront}
use Rattle.keeps.specs.Makes.{NoLowByte, NotFixed, Lists, NewLines}
use Rattle.breaches.specs.Breaches.{FirstBreach}

-- ---- index and list: "Index and list refuse as the set does, then by 22", with the need as its place

-- the index of the set at the front of s, into this much room, is refused with r
pub data IndexRefused (s : List ℕ) (room : ℕ) (r : Refusal) : Type 0 where
  as-the-set : FirstBreach s r → IndexRefused s room r
  no-room : (x : Shape) → SetAtFront s x → room < x.lines → r ≡ refusal no_room x.lines 0 → IndexRefused s room r

-- the list, likewise
pub data ListRefused (s : List ℕ) (room : ℕ) (r : Refusal) : Type 0 where
  as-the-set : FirstBreach s r → ListRefused s room r
  no-room : (l : List ℕ) → Lists s (length l) l → room < length l → r ≡ refusal no_room (length l) 0 → ListRefused s room r

-- ---- corrections: "18 (used length), the set's own refusals, 18 (second set), 19, 20, 6, 14", 24, "22"

-- a line that has one of the labels that cannot be corrected
abbrev pub FixedLabel : ℕ → Type 0
FixedLabel l = (l ≡ 8000) ⊎ ((l ≡ 8100) ⊎ ((l ≡ 9206) ⊎ (l ≡ 9218)))

-- the lines fs are a set that keeps the rules, and rest follows it; line number n of it is to be given content c, in a buffer of this many bytes. What is told, each if nothing before
-- it is wrong: "18 (second set), 19, 20, 6, 14", 24, "22"
pub data ChangeRefused (room : ℕ) (fs : List Field) (rest : List ℕ) (n : ℕ) (c : List ℕ) (r : Refusal) : Type 0 where
  -- "another set follows (place: first set's length)"
  another-set : rest ≢ [] → r ≡ refusal bad_use (size fs) 0 → ChangeRefused room fs rest n c r
  -- "line number 0 or beyond the set; place: set length"
  no-line : rest ≡ [] → (n ≡ 0) ⊎ (length fs < n) → r ≡ refusal no_such_line (size fs) 0 → ChangeRefused room fs rest n c r
  -- "line is 8000, 8100 or 9218", or 9206; 20 carries the label concerned
  fixed-line : rest ≡ [] → (1 ≤ n) × (n ≤ length fs) → FixedLabel (label_at_line fs (pred n))
      → r ≡ refusal fixed_line (offset fs (pred n)) (label_at_line fs (pred n)) → ChangeRefused room fs rest n c r
  -- the first byte under 20h, by its place in the new content
  low_byte : rest ≡ [] → (1 ≤ n) × (n ≤ length fs) → NotFixed (label_at_line fs (pred n))
      → (i : ℕ) → i < length c → get_or c i 0 < least_byte → ((j : ℕ) → j < i → least_byte ≤ get_or c j 0)
      → r ≡ refusal bad_byte i 0 → ChangeRefused room fs rest n c r
  -- "content breaks length, kind or rule"; "14 from a correction" carries the label concerned, too
  bad-content : rest ≡ [] → (1 ≤ n) × (n ≤ length fs) → NotFixed (label_at_line fs (pred n)) → NoLowByte c → fits_label (label_at_line fs (pred n)) c ≡ false
      → r ≡ refusal bad_content (offset fs (pred n)) (label_at_line fs (pred n)) → ChangeRefused room fs rest n c r
  -- "for a correction .. after BadContent": the first byte over 7Fh, by its place in the new content
  high-byte : rest ≡ [] → (1 ≤ n) × (n ≤ length fs) → NotFixed (label_at_line fs (pred n)) → NoLowByte c → fits_label (label_at_line fs (pred n)) c ≡ true
      → HasSevenBits fs → (i : ℕ) → i < length c → most_seven_bits < get_or c i 0 → ((j : ℕ) → j < i → get_or c j 0 ≤ most_seven_bits)
      → r ≡ refusal high_byte i 0 → ChangeRefused room fs rest n c r
  -- "place: the need": the size of the lines with the new content and its sum
  no-room : rest ≡ [] → (1 ≤ n) × (n ≤ length fs) → NotFixed (label_at_line fs (pred n)) → NoLowByte c → fits_label (label_at_line fs (pred n)) c ≡ true
      → (HasSevenBits fs → NoHighByte c) → (new : List Field) → NewLines fs n c new → room < size new → r ≡ refusal no_room (size new) 0 → ChangeRefused room fs rest n c r

-- of the buffer b the first `used` bytes are to be a set, line number n of which is to be given content c; that is refused with r
pub data CorrectionRefused (b : List ℕ) (used n : ℕ) (c : List ℕ) (r : Refusal) : Type 0 where
  -- "used length over the buffer (place: buffer length)"
  used_over : length b < used → r ≡ refusal bad_use (length b) 0 → CorrectionRefused b used n c r
  as-the-set : used ≤ length b → FirstBreach (take used b) r → CorrectionRefused b used n c r
  of-change : used ≤ length b → (t : SetType) (fs : List Field) (rest : List ℕ) → Keeps (take used b) t fs rest → ChangeRefused (length b) fs rest n c r → CorrectionRefused b used n c r
