-- How many bytes the recoded lines have, and what the search over the bytes of a set says of 27.
use mathlib.Core.Path.{◌≡◌, refl, sym, ap, ◌∙◌}
use mathlib.Core.Bool.{Bool, true, false, cond, not}
use mathlib.Core.List.{List, [], ◌∷◌, map}
use Prim.Native.Nat.{ℕ, zero, suc, ◌+◌, ◌≤◌, ◌<◌}
use native.Mathlib.Omega.{arith}
use lib.Dec.{eqb}
use lib.ListN.{length, length-map}
use borrow.Author.Tests.{eqb-true, ne_eqb, le-leb, lt-leb}
use Rattle.meaning.specs.declared.Refusal.{Refusal}
use Rattle.meaning.specs.Field.{Field, field, label_at_line, content_at_line}
use Rattle.meaning.specs.Refusals.{Spot, Fault, at_byte, refused, verdict, refusal, no_such_character}
use Rattle.meaning.specs.Lines.{line_lead, line_end, line_size, size, render, most_seven_bits}
use Rattle.meaning.specs.Groups.{first}
use Rattle.meaning.specs.Rules.{Profile, rules_from}
use Rattle.meaning.specs.Reading.{in_set}
use Rattle.meaning.specs.Corrections.{resum}
use Rattle.meaning.proofs.FirstLaws.{first_of, Real, real-append, real-rule, first-none}
use Rattle.meaning_recode.specs.declared.Code.{Code}
use Rattle.meaning_recode.specs.declared.Code.TheVariants.{Page437, Page1252}
use Rattle.meaning_recode.specs.Codes.{no_byte, to1252, to437, table_into, recoded}
use Rattle.meaning_recode.specs.Recoding.{charset_of, no_character_bytes, no_character_from, recode_field, charset_field, with_charset}
use Rattle.meaning_recode.proofs.CodeLaws.{low-stays}
use Rattle.byte_low.proofs.SeekLineLaws.{found_before, seek_set}
use Rattle.recode_bytes.specs.Mapped.{CodeTable, has_character, first_without}
use Rattle.correct_plan.proofs.TotalLaws.{Headed}
use Rattle.recode_plan.proofs.CharsetPlaceLaws.{charset-byte}

-- ---- how many bytes

-- the content of every line that is 9206 has one byte
abbrev pub OneByte : List Field → Type 0
OneByte fs = (k : ℕ) → k < length fs → label_at_line fs k ≡ 9206 → length (content_at_line fs k) ≡ 1

module _ (w : Code) where
  pub size-recoded : (fs : List Field) → size (map (recode_field w) fs) ≡ size fs
  size-recoded [] = refl
  size-recoded (f ∷ fs) = omega (arith, size-recoded fs, length-map f.content (recoded w))

  mark-length : length (charset_of w) ≡ 1
  mark-length = go w
    where
      go : (w : Code) → length (charset_of w) ≡ 1
      go Page437 = refl
      go Page1252 = refl

  marked-line : (f : Field) → (f.label ≡ 9206 → length f.content ≡ 1) → line_size (charset_field w f) ≡ line_size f
  marked-line f h = go (eqb f.label 9206) refl
    where
      go : (b : Bool) → eqb f.label 9206 ≡ b → line_size (cond b (field 9206 (charset_of w)) f) ≡ line_size f
      go true e = omega (arith, mark-length, h (eqb-true f.label 9206 e))
      go false e = refl

  pub size-marked : (fs : List Field) → OneByte fs → size (map (charset_field w) fs) ≡ size fs
  size-marked [] h = refl
  size-marked (f ∷ fs) h = omega (arith, marked-line f (h 0 (omega arith)), size-marked fs (λ k l. h (suc k) (omega arith)))

  -- recoding keeps labels and lengths
  pub one-byte-recoded : (fs : List Field) → OneByte fs → OneByte (map (recode_field w) fs)
  one-byte-recoded [] h k l e = absurd (omega arith)
  one-byte-recoded (f ∷ fs) h zero l e = length-map f.content (recoded w) ∙ h 0 (omega arith) e
  one-byte-recoded (f ∷ fs) h (suc k) l e = one-byte-recoded fs (λ j m. h (suc j) (omega arith)) k (omega arith) e

  -- the line that is gained: one byte and its frame
  pub size-gained : (fs : List Field) → Headed fs → size (resum (with_charset w (map (recode_field w) fs))) ≡ size fs + (1 + (line_lead + line_end))
  size-gained [] h = absurd (omega (arith, h.second-five))
  size-gained (f ∷ []) h = absurd (omega (arith, h.second-five))
  size-gained (f ∷ g ∷ fs) h = omega (arith, h.second-five, mark-length, size-recoded fs, length-map f.content (recoded w))

pub one-byte : (p : Profile) (fs : List Field) → rules_from p first 0 fs ≡ [] → OneByte fs
one-byte p fs h k l e = charset-byte p fs h k l e

-- ---- 27

whole-table : (w : Code) → length (table_into w) ≡ 256
unfolding table_into to437 to1252
whole-table Page437 = refl
whole-table Page1252 = refl

-- the table is one that the searches take
pub table-codes : (w : Code) → CodeTable (table_into w)
table-codes w = record { whole = whole-table w; low-stays = low-stays w }

module _ (w : Code) where
  has-low : (b : ℕ) → b ≤ most_seven_bits → has_character (table_into w) b ≡ true
  has-low b h = rw (low-stays w b (omega arith), ne_eqb b no_byte (λ z. omega arith))

  real-bytes : (k i : ℕ) (c : List ℕ) → Real (no_character_bytes w k i c)
  real-bytes k i [] = tt
  real-bytes k i (b ∷ bs) = real-rule (not (eqb (recoded w b) no_byte)) (at_byte no_such_character k i) (no_character_bytes w k (suc i) bs) (λ z. omega arith) (real-bytes k (suc i) bs)

  real-unknown : (k : ℕ) (fs : List Field) → Real (no_character_from w k fs)
  unfolding no_character_from
  real-unknown k [] = tt
  real-unknown k (f ∷ fs) = real-append (no_character_bytes w k 0 f.content) (no_character_from w (k + 1) fs) (real-bytes k 0 f.content) (real-unknown (k + 1) fs)

  unknown-offset : (fs : List Field)
      → found_before no_such_character (size fs) (first_without (table_into w) (render fs []) 0 (size fs)) ≡ first_of (in_set fs) (no_character_from w 0 fs)
  unfolding no_character_from
  unknown-offset = seek_set (has_character (table_into w)) no_such_character has-low (no_character_bytes w) (no_character_from w) (λ k i. refl) (λ k i b bs. refl) (λ k. refl) (λ k f fs. refl)

  -- no byte is found: there is no fault
  pub unknown-none : (fs : List Field) → size fs ≤ first_without (table_into w) (render fs []) 0 (size fs) → no_character_from w 0 fs ≡ []
  unknown-none fs h =
      let e = unknown-offset fs in
      first-none (in_set fs) (no_character_from w 0 fs) (real-unknown 0 fs)
      (ap (λ (r : Refusal). r.no) (sym e) ∙ rw (le-leb (size fs) (first_without (table_into w) (render fs []) 0 (size fs)) h))

  -- a byte is found: it is the first fault
  by_first : {A : Type 0} (pl : ℕ → Spot → ℕ) (xs : List Fault) (a : A) (r : Refusal) → r ≡ first_of pl xs → (r.no ≡ 0 → ⊥) → verdict pl xs a ≡ refused r
  by_first pl [] a r e n = absurd (n (ap (λ (x : Refusal). x.no) e))
  by_first pl (x ∷ xs) a r e n = ap refused (sym e)

  pub unknown-some : (fs : List Field) (found : ℕ) → found ≡ first_without (table_into w) (render fs []) 0 (size fs) → found < size fs
      → {A : Type 0} (a : A) → verdict (in_set fs) (no_character_from w 0 fs) a ≡ refused (refusal no_such_character found 0)
  unknown-some fs found q h a =
      by_first (in_set fs) (no_character_from w 0 fs) a (refusal no_such_character found 0)
      (sym (rw (lt-leb (size fs) found h) refl) ∙ (ap (found_before no_such_character (size fs)) q ∙ unknown-offset fs)) (λ z. omega arith)
