-- "From code page 437 to 1252 and back" (request E5): recoding of a whole set in its buffer.
-- Where the request leaves a choice, the decision is named (E5a ..; docs/DECISIONS.md).
use Rattle.std.specs.Prelude.{Bool, false, cond, not, ◌&&◌, ◌||◌, List, [], ◌∷◌, ◌++◌, map, ℕ, suc, ◌+◌, length, take, leb, eqb}
use Rattle.meaning.specs.Limits.{max_lines}
use Rattle.meaning.specs.Digits.{digits}
use Rattle.meaning.specs.Field.{Field, field, labels, elem}
use Rattle.meaning.specs.Refusals.{Fault, at_line, at_byte, ask, Reply, refused, then_to, refusal, verdict, too_many_lines, bad_use, no_such_character}
use Rattle.meaning.specs.Pieces.{Parsed}
use Rattle.meaning.specs.Kinds.{same_bytes}
use Rattle.meaning.specs.Rules.{seven_bit}
use Rattle.meaning.specs.Reading.{in_set, read}
use Rattle.meaning.specs.Lists.{set_with_room}
use Rattle.meaning.specs.Corrections.{alone_faults, resum}
use Rattle.meaning_recode.specs.declared.Code.{Code}
use Rattle.meaning_recode.specs.declared.Code.TheVariants.{Page437, Page1252}
use Rattle.meaning_recode.specs.Codes.{no_byte, recoded}

-- ---- the code page that a set is in

-- what 9206 holds (document 002): "2=IBM(Standard) CP 437"; 3, "9206 = 3" of the request, is CP 1252
abbrev pub charset_of : Code → List ℕ
charset_of Page437 = digits 1 2
charset_of Page1252 = digits 1 3

-- the line is 9206 and names this code page
unfoldable pub line_names_code : Code → Field → Bool
line_names_code w f = eqb f.label 9206 && same_bytes f.content (charset_of w)

-- a line of the set names this code page; in an accepted set at most one line is 9206
unfoldable pub names_code : Code → List Field → Bool
names_code w [] = false
names_code w (f ∷ fs) = line_names_code w f || names_code w fs

abbrev pub has_charset : List Field → Bool
has_charset fs = elem 9206 (labels fs)

-- the set is in this code page: "a set without 9206 counts as code page 437"
unfoldable pub in_code : Code → List Field → Bool
in_code Page437 fs = names_code Page437 fs || not (has_charset fs)
in_code Page1252 fs = names_code Page1252 fs

-- ---- what is refused

-- "A set already in the wanted code stays as it is. Sets with 9206 = 1 only change that content": in all other sets every content is recoded
unfoldable pub all_recoded : Code → List Field → Bool
all_recoded w fs = not (in_code w fs || seven_bit fs)

-- "A set without 9206 counts as code page 437 and gains that line": only if 1252 is wanted, since it is in 437 already (E5c)
abbrev pub gains : Code → List Field → Bool
gains w fs = not (in_code w fs || has_charset fs)

-- 7, TooManyLines: "where the added line would be the 513th (place: set length)": all lines stand before that place (E5e)
abbrev pub added_faults : Code → List Field → List Fault
added_faults w fs = ask (not (gains w fs) || leb (length fs + 1) max_lines) (at_line too_many_lines (length fs) 0)

-- 27, NoSuchCharacter: a fault for each byte of a content, from its byte i on, that becomes no byte of the wanted code page; in the line that has k lines before it
abbrev pub no_character_bytes : Code → ℕ → ℕ → List ℕ → List Fault
no_character_bytes w k i [] = []
no_character_bytes w k i (b ∷ bs) = ask (not (eqb (recoded w b) no_byte)) (at_byte no_such_character k i) ++ no_character_bytes w k (suc i) bs

-- of these lines, in their order; k lines stand before the first of them
unfoldable pub no_character_from : Code → ℕ → List Field → List Fault
no_character_from w k [] = []
no_character_from w k (f ∷ fs) = no_character_bytes w k 0 f.content ++ no_character_from w (k + 1) fs

-- "TooManyLines ..; NoSuchCharacter (27), at the first such byte": a byte of the buffer as it was given (E5f)
unfoldable pub recode_faults : Code → List Field → List Fault
recode_faults w fs = added_faults w fs ++ cond (all_recoded w fs) (no_character_from w 0 fs) []

-- ---- what is made

-- a line with its content in the wanted code page
abbrev pub recode_field : Code → Field → Field
recode_field w f = field f.label (map (recoded w) f.content)

-- 9206 names the wanted code page; any other line stays as it is
abbrev pub charset_field : Code → Field → Field
charset_field w f = cond (eqb f.label 9206) (field 9206 (charset_of w)) f

-- "gains that line as line 3"; only asked if 1252 is wanted
abbrev pub with_charset : Code → List Field → List Field
with_charset w [] = []
with_charset w (f ∷ []) = f ∷ []
with_charset w (f ∷ g ∷ fs) = f ∷ g ∷ field 9206 (charset_of w) ∷ fs

-- every content in the wanted code page; 9206 names it where it stands; a set without 9206 gains it as line 3, and 8100 counts it (E5e)
abbrev pub recoded_whole : Code → List Field → List Field
recoded_whole w fs = cond (has_charset fs) (map (charset_field w) (map (recode_field w) fs)) (resum (with_charset w (map (recode_field w) fs)))

-- "A set already in the wanted code stays as it is. Sets with 9206 = 1 only change that content" (E5c, E5d)
unfoldable pub recode_lines : Code → List Field → List Field
recode_lines w fs = cond (in_code w fs) fs (cond (seven_bit fs) (map (charset_field w) fs) (recoded_whole w fs))

-- ---- the call

abbrev pub recode_set : Code → ℕ → Parsed → Reply (List ℕ)
recode_set w room d = then_to (verdict (in_set d.fields) (alone_faults d ++ recode_faults w d.fields) (recode_lines w d.fields)) (λ fs. set_with_room fs room)

-- "recoding of a whole set in its buffer": the set in the first `used` bytes of the buffer b, brought into the wanted code page. "Refusals, after all set refusals: TooManyLines ..;
-- NoSuchCharacter (27) ..; NoRoom last", and 18 as in a correction (E5b): 18 (used length, at the buffer's length), the set's own, 18 (another set follows, at the set's length), 7, 27, 22
unfoldable pub recode : List ℕ → ℕ → Code → Reply (List ℕ)
recode b used w = cond (leb used (length b)) (then_to (read (take used b)) (λ d. recode_set w (length b) d)) (refused (refusal bad_use (length b) 0))
