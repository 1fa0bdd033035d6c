-- Which numbers recoding can refuse with: 1 to 18, 22, 24 and 27.
use mathlib.Core.Path.{refl}
use mathlib.Core.Bool.{not, ◌||◌}
use mathlib.Core.List.{List, [], ◌∷◌, ◌++◌}
use Prim.Native.Nat.{ℕ, suc, ◌+◌}
use lib.Dec.{leb, eqb}
use lib.ListN.{length, take}
use Rattle.meaning.specs.Limits.{max_lines}
use Rattle.meaning.specs.Field.{Field, elem, is_nil}
use Rattle.meaning.specs.Refusals.{at_line, at_byte, then_to, verdict, bad_use, too_many_lines, no_such_character}
use Rattle.meaning.specs.Reading.{in_set, read}
use Rattle.meaning.specs.Lists.{set_with_room}
use Rattle.meaning.specs.Corrections.{alone_faults}
use Rattle.meaning.proofs.NumberLaws.{Given, Numbered, given-append, given-cond, given-rule, numbered-then, numbered-verdict, numbered-cond, numbered-set}
use Rattle.meaning.proofs.NumberLaws.{OneOf, read_numbers, reads_so}
use Rattle.meaning_recode.specs.declared.Code.{Code}
use Rattle.meaning_recode.specs.Codes.{no_byte, recoded}
use Rattle.meaning_recode.specs.Recoding.{gains, all_recoded, no_character_bytes, no_character_from, recode_faults, recode_lines, recode_set, recode}

-- a set's own, 1 to 17 and 24, and those of the call
abbrev pub recode_numbers : List ℕ
recode_numbers = read_numbers ++ (18 ∷ 22 ∷ 27 ∷ [])

abbrev Own : ℕ → Type 0
Own = OneOf recode_numbers

given-unknown : (w : Code) (k i : ℕ) (c : List ℕ) → Given Own (no_character_bytes w k i c)
unfolding elem
given-unknown w k i [] = tt
given-unknown w k i (b ∷ c) =
    given-rule Own (not (eqb (recoded w b) no_byte)) (at_byte no_such_character k i) (no_character_bytes w k (suc i) c) refl (given-unknown w k (suc i) c)

given-unknown-from : (w : Code) (k : ℕ) (fs : List Field) → Given Own (no_character_from w k fs)
unfolding no_character_from
given-unknown-from w k [] = tt
given-unknown-from w k (f ∷ fs) =
    given-append Own (no_character_bytes w k 0 f.content) (no_character_from w (k + 1) fs) (given-unknown w k 0 f.content) (given-unknown-from w (k + 1) fs)

given-recode : (w : Code) (fs : List Field) → Given Own (recode_faults w fs)
unfolding recode_faults elem
given-recode w fs =
    given-rule Own (not (gains w fs) || leb (length fs + 1) max_lines) (at_line too_many_lines (length fs) 0) _ refl
    (given-cond Own (all_recoded w fs) (no_character_from w 0 fs) [] (given-unknown-from w 0 fs) tt)

pub recode-numbers : (b : List ℕ) (used : ℕ) (w : Code) → Numbered (OneOf recode_numbers) (recode b used w)
unfolding recode elem
recode-numbers b used w =
    numbered-cond Own (leb used (length b)) (then_to (read (take used b)) (λ d. recode_set w (length b) d)) _
    (numbered-then Own (read (take used b)) (λ d. recode_set w (length b) d) (reads_so (18 ∷ 22 ∷ 27 ∷ []) (take used b)) (λ d.
    numbered-then Own (verdict (in_set d.fields) (alone_faults d ++ recode_faults w d.fields) (recode_lines w d.fields)) (λ fs. set_with_room fs (length b))
    (numbered-verdict Own (in_set d.fields) (alone_faults d ++ recode_faults w d.fields) (recode_lines w d.fields)
    (given-rule Own (is_nil d.rest) (at_line bad_use (length d.fields) 0) (recode_faults w d.fields) refl (given-recode w d.fields)))
    (λ fs. numbered-set Own refl fs (length b)))) refl
