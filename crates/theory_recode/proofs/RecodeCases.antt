-- The lines of a set that keeps the rules, in the four cases of recoding: what is asked of them and made of them. Lines that are recoded by the rules are those that are made, and nothing is
-- faulty then (`recoded-lines`); and of every set they are so, or one line is too many, or a byte is no character of the wanted code page (`outcome`).
use mathlib.Core.Path.{◌≡◌, refl, sym, ap, ◌∙◌, subst}
use mathlib.Core.Bool.{Bool, true, false, cond}
use mathlib.Core.List.{List, [], ◌∷◌, ◌++◌, map}
use Prim.Native.Nat.{ℕ, ◌+◌, ◌≤◌, ◌<◌}
use native.Mathlib.Omega.{arith}
use lib.Dec.{leb, eqb}
use lib.ListN.{length, length-map}
use borrow.Author.Tests.{leb-true, leb-false, le-leb}
use Rattle.meaning.specs.declared.SetType.{SetType}
use Rattle.meaning.specs.Limits.{max_lines, max_set_bytes, type_number}
use Rattle.meaning.specs.Digits.{digits}
use Rattle.meaning.specs.Field.{Field, field, label_at_line, content_at_line}
use Rattle.meaning.specs.Refusals.{Fault, at_line, at_byte, ask, too_many_lines, no_such_character}
use Rattle.meaning.specs.Pieces.{parsed}
use Rattle.meaning.specs.Lines.{line_size, size, min_line_bytes}
use Rattle.meaning.specs.FieldTable.{fits_label}
use Rattle.meaning.specs.Rules.{profile, fits, seven_bit}
use Rattle.meaning.specs.Lists.{sum_line}
use Rattle.meaning.specs.Corrections.{resum}
use Rattle.meaning.proofs.DigitLaws.{digits-all, plain-digits}
use Rattle.meaning.proofs.FaultLaws.{Plain}
use Rattle.meaning.proofs.FieldLaws.{sum_fits}
use Rattle.meaning.proofs.SizeLaws.{most_bytes, accepted-size}
use Rattle.keeps.specs.Keeps.{HasSevenBits, Keeps}
use Rattle.keeps.proofs.SevenExact.{has-seven}
use Rattle.keeps.proofs.Exact.{keeps-accepted}
use Rattle.meaning_recode.specs.declared.Code.{Code}
use Rattle.meaning_recode.specs.declared.Code.TheVariants.{Page437, Page1252}
use Rattle.meaning_recode.specs.Codes.{recoded}
use Rattle.meaning_recode.specs.Recoding.{charset_of, in_code, has_charset, all_recoded, no_character_from, recode_faults, recode_field, charset_field, with_charset, recode_lines}
use Rattle.theory_recode.specs.RecodeRules.{not_wanted, NoCharset, IsIn, Recoded, stays, only-charset, all_lines, gained}
use Rattle.theory_recode.specs.RecodeBreaches.{OtherPage, FirstWithout}
use Rattle.theory_recode.proofs.ContentExact.{LinesHave, none-unknown-from, all-known-from}
use Rattle.theory_recode.proofs.CharsetExact.{has-charset, charset-no, named-charset, seven-charset, is-in, not_in, not-seven-bits, OneCharset, one-charset}
use Rattle.theory_recode.proofs.CharsetExact.{named-not-seven, seven-not-in, other-not-in, none-not-in, Which, already, seven, other, without, which}
use Rattle.theory_recode.proofs.LinesExact.{all-in-page, pages-only, pages-have, only-charset-new, only_that, Fronted, gained-line, gained-only, gained-have}
use Rattle.theory_recode.proofs.FirstUnknown.{first-without}

-- ---- what is used of a set that keeps the rules

pub record OfSet (fs : List Field) : Type 0 where
  pub charset : OneCharset fs
  pub front : Fronted fs
  pub few : length fs ≤ max_lines
  pub short : size fs ≤ most_bytes

two-lines : (fs : List Field) → label_at_line fs 1 ≡ 8100 → 2 ≤ length fs
two-lines [] q = absurd (omega arith)
two-lines (f ∷ []) q = absurd (omega arith)
two-lines (f ∷ g ∷ fs) q = omega arith

keeps-fronted : (s : List ℕ) (t : SetType) (fs : List Field) (rest : List ℕ) → Keeps s t fs rest → Fronted fs
unfolding fits
keeps-fronted s t fs rest k =
    let two : 2 ≤ length fs = two-lines fs k.rules.second-8100 in
    let sum : fits_label 8100 (content_at_line fs 1) ≡ true =
    subst (λ (l : ℕ). fits_label l (content_at_line fs 1) ≡ true) k.rules.second-8100 (k.rules.contents-fit 1 (omega arith)) in
    record {
      two-lines = two;
      first_plain = subst Plain (sym k.rules.starts.1) (plain-digits (digits 4 (type_number t)) (digits-all 4 (type_number t)));
      second_plain = plain-digits (content_at_line fs 1) (sum_fits (profile fs) (content_at_line fs 1) sum).all-digits;
    }

pub of-set-so : (s : List ℕ) (t : SetType) (fs : List Field) (rest : List ℕ) → Keeps s t fs rest → OfSet fs
of-set-so s t fs rest k = record {
  charset = one-charset t fs k.rules;
  front = keeps-fronted s t fs rest k;
  few = k.few-lines;
  short = accepted-size s (parsed fs rest) (keeps-accepted s t fs rest k);
}

-- ---- "over 99,999" never decides: a mark adds at most a byte to its line, the gained line has ten, and the sum's line fourteen

size-recoded : (w : Code) (fs : List Field) → size (map (recode_field w) fs) ≡ size fs
size-recoded w [] = refl
size-recoded w (f ∷ fs) = omega (arith, length-map f.content (recoded w), size-recoded w fs)

mark-line : (w : Code) (f : Field) → line_size (charset_field w f) ≤ line_size f + 1
mark-line w f = go w (eqb f.label 9206)
  where
    go : (v : Code) (b : Bool) → line_size (cond b (field 9206 (charset_of v)) f) ≤ line_size f + 1
    go Page437 true = omega arith
    go Page1252 true = omega arith
    go v false = omega arith

size-marked : (w : Code) (fs : List Field) → size (map (charset_field w) fs) ≤ size fs + length fs
size-marked w [] = omega arith
size-marked w (f ∷ fs) = omega (arith, mark-line w f, size-marked w fs)

size-charset : (w : Code) (fs : List Field) → size (with_charset w fs) ≤ size fs + min_line_bytes
size-charset w [] = omega arith
size-charset w (f ∷ []) = omega arith
size-charset Page437 (f ∷ g ∷ fs) = omega arith
size-charset Page1252 (f ∷ g ∷ fs) = omega arith

size-resum : (fs : List Field) → size (resum fs) ≤ size fs + sum_line
size-resum [] = omega arith
size-resum (f ∷ []) = omega arith
size-resum (f ∷ g ∷ fs) = omega arith

abbrev most_new : List Field → ℕ
most_new fs = size fs + (length fs + (min_line_bytes + sum_line))

size-new : (w : Code) (fs : List Field) → size (recode_lines w fs) ≤ most_new fs
unfolding recode_lines
size-new w fs = go (in_code w fs) (seven_bit fs) (has_charset fs)
  where
    go : (a b c : Bool)
        → size (cond a fs (cond b (map (charset_field w) fs) (cond c (map (charset_field w) (map (recode_field w) fs)) (resum (with_charset w (map (recode_field w) fs)))))) ≤ most_new fs
    go true b c = omega arith
    go false true c = omega (arith, size-marked w fs)
    go false false true = omega (arith, size-marked w (map (recode_field w) fs), size-recoded w fs, length-map fs (recode_field w))
    go false false false = omega (arith, size-resum (with_charset w (map (recode_field w) fs)), size-charset w (map (recode_field w) fs), size-recoded w fs)

pub total : (w : Code) (fs : List Field) → OfSet fs → size (recode_lines w fs) ≤ max_set_bytes
total w fs s = omega (arith, size-new w fs, s.few, s.short)

-- ---- what is asked and made, in each of the four cases

module _ (w : Code) (fs : List Field) where
  abbrev many_lines : List Fault
  many_lines = ask (leb (length fs + 1) max_lines) (at_line too_many_lines (length fs) 0)

  at_rest : in_code w fs ≡ true → (recode_faults w fs ≡ []) × (recode_lines w fs ≡ fs)
  unfolding recode_faults all_recoded recode_lines
  at_rest a = (rw a refl, rw a refl)

  if-seven : in_code w fs ≡ false → seven_bit fs ≡ true → has_charset fs ≡ true → (recode_faults w fs ≡ []) × (recode_lines w fs ≡ map (charset_field w) fs)
  unfolding recode_faults all_recoded recode_lines
  if-seven a b c = (rw (a, b, c) refl, rw (a, b) refl)

  if-other : in_code w fs ≡ false → seven_bit fs ≡ false → has_charset fs ≡ true
      → (recode_faults w fs ≡ no_character_from w 0 fs) × (recode_lines w fs ≡ map (charset_field w) (map (recode_field w) fs))
  unfolding recode_faults all_recoded recode_lines
  if-other a b c = (rw (a, b, c) refl, rw (a, b, c) refl)

  if-without : in_code w fs ≡ false → seven_bit fs ≡ false → has_charset fs ≡ false
      → (recode_faults w fs ≡ many_lines ++ no_character_from w 0 fs) × (recode_lines w fs ≡ resum (with_charset w (map (recode_field w) fs)))
  unfolding recode_faults all_recoded recode_lines
  if-without a b c = (rw (a, b, c) refl, rw (a, b, c) refl)

none-not-seven : (fs : List Field) → NoCharset fs → HasSevenBits fs → ⊥
none-not-seven fs n s = let h = seven-charset fs s in n h.0 h.1 h.2

-- ---- lines that are recoded by the rules are those that are made, and nothing is faulty

pub recoded-lines : (w : Code) (fs new : List Field) → OfSet fs → Recoded w fs new → (recode_faults w fs ≡ []) × (new ≡ recode_lines w fs)
recoded-lines w fs new s (stays i e) = let c = at_rest w fs (is-in w fs i) in (c.0, e ∙ sym c.1)
recoded-lines w fs new s (only-charset h x) =
    let c = if-seven w fs (not_in w fs (seven-not-in fs s.charset w h)) (has-seven fs h) (has-charset fs (seven-charset fs h)) in
    (c.0, only_that w fs new x ∙ sym c.1)
recoded-lines w fs new s (all_lines n x) =
    let c = if-other w fs (not_in w fs (other-not-in fs s.charset w n)) (not-seven-bits fs (named-not-seven fs s.charset (not_wanted w) n)) (has-charset fs (named-charset (not_wanted w) fs n)) in
    (c.0 ∙ none-unknown-from w 0 fs (pages-have w fs new s.charset x), pages-only w fs new x ∙ sym c.1)
recoded-lines w fs new s (gained q n l x) =
    let a : IsIn w fs → ⊥ = subst (λ (v : Code). IsIn v fs → ⊥) (sym q) (none-not-in fs s.charset n) in
    let c = if-without w fs (not_in w fs a) (not-seven-bits fs (none-not-seven fs n)) (charset-no fs n) in
    let u : no_character_from w 0 fs ≡ [] = none-unknown-from w 0 fs (gained-have w fs new s.front n x) in
    (c.0 ∙ rw (le-leb (length fs + 1) max_lines l, u) refl, gained-only w fs new s.front n x ∙ sym c.1)

-- ---- and one of three holds of the lines of a set

pub data Outcome (w : Code) (fs : List Field) : Type 0 where
  fine : recode_faults w fs ≡ [] → Recoded w fs (recode_lines w fs) → Outcome w fs
  many : OtherPage w fs → NoCharset fs → max_lines < length fs + 1 → (xs : List Fault) → recode_faults w fs ≡ at_line too_many_lines (length fs) 0 ∷ xs → Outcome w fs
  unknown : OtherPage w fs → (NoCharset fs → length fs + 1 ≤ max_lines) → (k i : ℕ) → FirstWithout w fs k i
      → (xs : List Fault) → recode_faults w fs ≡ at_byte no_such_character k i ∷ xs → Outcome w fs

pub outcome : (w : Code) (fs : List Field) → OfSet fs → Outcome w fs
outcome w fs s = go (which fs s.charset w)
  where
    -- every content is recoded
    of-bytes : OtherPage w fs → (NoCharset fs → length fs + 1 ≤ max_lines) → recode_faults w fs ≡ no_character_from w 0 fs → (LinesHave w fs → Recoded w fs (recode_lines w fs))
        → (xs : List Fault) → no_character_from w 0 fs ≡ xs → Outcome w fs
    of-bytes p m e r [] q = fine (e ∙ q) (r (all-known-from w 0 fs q))
    of-bytes p m e r (x ∷ xs) q = let f = first-without w fs x xs q in unknown p m f.0 f.1 f.2 xs (e ∙ (q ∙ ap (λ (y : Fault). y ∷ xs) f.3))

    -- a line is gained
    of-lines : w ≡ Page1252 → NoCharset fs → OtherPage w fs → recode_faults w fs ≡ many_lines w fs ++ no_character_from w 0 fs → recode_lines w fs ≡ resum (with_charset w (map (recode_field w) fs))
        → (b : Bool) → leb (length fs + 1) max_lines ≡ b → Outcome w fs
    of-lines q n p e d true l =
        let m : length fs + 1 ≤ max_lines = leb-true (length fs + 1) max_lines l in
        of-bytes p (λ z. m) (e ∙ rw l refl)
        (λ h. subst (Recoded w fs) (sym d) (gained q n m (gained-line w fs s.front n h)))
        (no_character_from w 0 fs) refl
    of-lines q n p e d false l = many p n (leb-false (length fs + 1) max_lines l) (no_character_from w 0 fs) (e ∙ rw l refl)

    go : Which fs s.charset w → Outcome w fs
    go (already i) = let c = at_rest w fs (is-in w fs i) in fine c.0 (stays i c.1)
    go (seven h) =
        let c = if-seven w fs (not_in w fs (seven-not-in fs s.charset w h)) (has-seven fs h) (has-charset fs (seven-charset fs h)) in
        fine c.0 (subst (Recoded w fs) (sym c.1) (only-charset h (only-charset-new w fs)))
    go (other n) =
        let p : OtherPage w fs = (other-not-in fs s.charset w n, named-not-seven fs s.charset (not_wanted w) n) in
        let h = named-charset (not_wanted w) fs n in
        let c = if-other w fs (not_in w fs p.0) (not-seven-bits fs p.1) (has-charset fs h) in
        of-bytes p (λ z. absurd (z h.0 h.1 h.2)) c.0 (λ k. subst (Recoded w fs) (sym c.1) (all_lines n (all-in-page w fs k))) (no_character_from w 0 fs) refl
    go (without q n) =
        let p : OtherPage w fs = (subst (λ (v : Code). IsIn v fs → ⊥) (sym q) (none-not-in fs s.charset n), none-not-seven fs n) in
        let c = if-without w fs (not_in w fs p.0) (not-seven-bits fs p.1) (charset-no fs n) in
        of-lines q n p c.0 c.1 (leb (length fs + 1) max_lines) refl

-- ---- what is recoded in every content: with the line that it may gain it has at most 512, and every byte of it is a character of the wanted code page

pub few-enough : (w : Code) (fs gs : List Field) → OtherPage w fs → NoCharset fs → Recoded w fs gs → length fs + 1 ≤ max_lines
few-enough w fs gs p n (stays i e) = absurd (p.0 i)
few-enough w fs gs p n (only-charset h x) = absurd (p.1 h)
few-enough w fs gs p n (all_lines d x) = let h = named-charset (not_wanted w) fs d in absurd (n h.0 h.1 h.2)
few-enough w fs gs p n (gained q d l x) = l

pub recoded-have : (w : Code) (fs gs : List Field) → OfSet fs → OtherPage w fs → Recoded w fs gs → LinesHave w fs
recoded-have w fs gs s p (stays i e) = absurd (p.0 i)
recoded-have w fs gs s p (only-charset h x) = absurd (p.1 h)
recoded-have w fs gs s p (all_lines d x) = pages-have w fs gs s.charset x
recoded-have w fs gs s p (gained q d l x) = gained-have w fs gs s.front d x
