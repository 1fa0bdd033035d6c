-- The refusals of recoding, each by itself: number, place and label. Each reason is stated with what comes before it in the request's order being right, so that two never hold of one input.
-- Stated by RecodeRules, and by what a set is and how it is refused (Keeps of crate `keeps`, Breaches of crate `breaches`). proofs/RecodeExact: exactly these are given.
use Rattle.std.specs.Prelude.{◌≡◌, List, [], ◌≢◌, ℕ, ◌+◌, ◌≤◌, ◌<◌, length, take, get_or}
use Rattle.meaning.specs.declared.Refusal.{Refusal}
use Rattle.meaning.specs.declared.SetType.{SetType}
use Rattle.meaning.specs.Limits.{max_lines}
use Rattle.meaning.specs.Field.{Field, content_at_line}
use Rattle.meaning.specs.Refusals.{refusal, too_many_lines, bad_use, no_room, no_such_character}
use Rattle.meaning.specs.Lines.{line_lead, size, offset}
use Rattle.keeps.specs.Keeps.{HasSevenBits, Keeps}
use Rattle.breaches.specs.Breaches.{FirstBreach}
use Rattle.meaning_recode.specs.declared.Code.{Code}
use Rattle.theory_recode.specs.RecodeRules.{NoCharacter, NoCharset, IsIn, Recoded}

-- every content of the lines is recoded: the set is not in the wanted code page, and is not of seven bits
abbrev pub OtherPage : Code → List Field → Type 0
OtherPage w fs = (IsIn w fs → ⊥) × (HasSevenBits fs → ⊥)

-- byte i of the content of line k stands at this place
abbrev pub place_of : List Field → ℕ → ℕ → ℕ
place_of fs k i = offset fs k + (line_lead + i)

-- byte i of line k is the first that is no character of the wanted code page
pub record FirstWithout (w : Code) (fs : List Field) (k i : ℕ) : Type 0 where
  pub a-line : k < length fs
  pub a_byte : i < length (content_at_line fs k)
  pub no-character : NoCharacter w (get_or (content_at_line fs k) i 0)
  pub none_before : (m j : ℕ) → m < length fs → j < length (content_at_line fs m) → place_of fs m j < place_of fs k i → NoCharacter w (get_or (content_at_line fs m) j 0) → ⊥

-- the lines fs are a set that keeps the rules, and rest follows it; it is to be brought into the wanted code page, in a buffer of this many bytes. What is told, each if nothing before it is
-- wrong: 18 (second set), 7, 27, 22
pub data SetRefused (room : ℕ) (w : Code) (fs : List Field) (rest : List ℕ) (r : Refusal) : Type 0 where
  another-set : rest ≢ [] → r ≡ refusal bad_use (size fs) 0 → SetRefused room w fs rest r
  -- "where the added line would be the 513th (place: set length)"
  too-many-lines : rest ≡ [] → OtherPage w fs → NoCharset fs → max_lines < length fs + 1 → r ≡ refusal too_many_lines (size fs) 0 → SetRefused room w fs rest r
  -- "at the first such byte"
  no-such-character : rest ≡ [] → OtherPage w fs → (NoCharset fs → length fs + 1 ≤ max_lines) → (k i : ℕ) → FirstWithout w fs k i
      → r ≡ refusal no_such_character (place_of fs k i) 0 → SetRefused room w fs rest r
  -- "NoRoom last", with the new length as the need
  no-room : rest ≡ [] → (new : List Field) → Recoded w fs new → room < size new → r ≡ refusal no_room (size new) 0 → SetRefused room w fs rest r

-- of the buffer b the first `used` bytes are to be brought into the wanted code page; that is refused with r
pub data RecodeRefused (b : List ℕ) (used : ℕ) (w : Code) (r : Refusal) : Type 0 where
  -- "used length over the buffer (place: buffer length)"
  used_over : length b < used → r ≡ refusal bad_use (length b) 0 → RecodeRefused b used w r
  as-the-set : used ≤ length b → FirstBreach (take used b) r → RecodeRefused b used w r
  of-set : used ≤ length b → (t : SetType) (fs : List Field) (rest : List ℕ) → Keeps (take used b) t fs rest → SetRefused (length b) w fs rest r → RecodeRefused b used w r
