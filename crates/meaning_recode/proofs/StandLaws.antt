-- An accepted set that is recoded without a fault is an accepted set, in the wanted code page; without a gained line it has as many bytes as before.
use mathlib.Core.Path.{◌≡◌, refl, sym, ap, ◌∙◌}
use mathlib.Core.Bool.{Bool, true, false, cond, not, ◌||◌, true≢false}
use mathlib.Core.List.{List, [], ◌∷◌, map}
use Prim.Native.Nat.{◌+◌, ◌≤◌}
use native.Mathlib.Omega.{arith}
use lib.Dec.{leb, eqb}
use lib.ListN.{length, drop, length-map}
use borrow.Author.Tests.{leb-true, eqb-true, eqb-false, eq-eqb, ne_eqb}
use Rattle.meaning.specs.Limits.{max_lines}
use Rattle.meaning.specs.Field.{Field, field, elem}
use Rattle.meaning.specs.Lines.{size}
use Rattle.meaning.specs.Groups.{first}
use Rattle.meaning.specs.Rules.{profile, says_seven_bit, seven_bit}
use Rattle.meaning.specs.Corrections.{resum}
use Rattle.meaning.proofs.Bools.{Every, and_left, or_right}
use Rattle.meaning.proofs.SameLaws.{bytes_same}
use Rattle.meaning.proofs.FaultLaws.{append-none, ask-last}
use Rattle.meaning.proofs.LineLaws.{Sound, NoStart}
use Rattle.meaning.proofs.RuleLaws.{Ruled, ruled}
use Rattle.meaning.proofs.SetLaws.{Standing}
use Rattle.meaning.proofs.CorrectionLaws.{upright, two, standing-resum}
use Rattle.meaning_recode.specs.declared.Code.{Code}
use Rattle.meaning_recode.specs.declared.Code.TheVariants.{Page437, Page1252}
use Rattle.meaning_recode.specs.Recoding.{charset_of, line_names_code, names_code, has_charset, in_code, gains, added_faults, recode_faults, recode_field, charset_field, with_charset, recode_lines}
use Rattle.meaning_recode.proofs.InsertLaws.{insert-charset}
use Rattle.meaning_recode.proofs.MapLaws.{map-labels, size-map, alters-recode, recoded-standing, mark-sound, alters-mark, marked-standing}

-- ---- a line gained

length-gained : (w : Code) (fs : List Field) → length (with_charset w fs) ≤ length fs + 1
length-gained w [] = omega arith
length-gained w (f ∷ []) = omega arith
length-gained w (f ∷ g ∷ fs) = omega arith

sound-gained : (w : Code) (fs : List Field) → Every Sound fs → Every Sound (with_charset w fs)
sound-gained w [] h = tt
sound-gained w (f ∷ []) h = h
sound-gained w (f ∷ g ∷ fs) h = (h.0, (h.1.0, (mark-sound w, h.1.1)))

alone-gained : (w : Code) (fs : List Field) → Every NoStart (drop 1 fs) → Every NoStart (drop 1 (with_charset w fs))
alone-gained w [] h = tt
alone-gained w (f ∷ []) h = tt
alone-gained w (f ∷ g ∷ fs) h = (h.0, (λ e. omega arith, h.1))

-- 7 is not given, so there is room for one more
added-few : (w : Code) (fs : List Field) → added_faults w fs ≡ [] → in_code w fs ≡ false → has_charset fs ≡ false → length fs + 1 ≤ max_lines
added-few w fs e p q = leb-true (length fs + 1) max_lines (rw (p, q) at (ask-last (not (gains w fs) || leb (length fs + 1) max_lines) _ e))

pub charset-kept : (w : Code) (fs : List Field) → has_charset (map (recode_field w) fs) ≡ has_charset fs
charset-kept w fs = ap (elem 9206) (map-labels (recode_field w) (alters-recode w) fs)

-- ---- accepted

module _ (w : Code) where
  gained-standing : (fs : List Field) → Standing fs → has_charset fs ≡ false → length fs + 1 ≤ max_lines → Standing (resum (with_charset w fs))
  gained-standing fs st q l = standing-resum (with_charset w fs) (record {
    sound = sound-gained w fs st.sound;
    alone = alone-gained w fs st.alone;
    few = omega (arith, length-gained w fs);
    rules = insert-charset w fs q (ruled fs st.right).0;
  })

  pub recoded-stands : (fs : List Field) → Standing fs → recode_faults w fs ≡ [] → Standing (recode_lines w fs)
  unfolding recode_lines recode_faults
  recoded-stands fs st e = go (in_code w fs) refl (seven_bit fs) (has_charset fs) refl
    where
      gs : List Field
      gs = map (recode_field w) fs

      go : (i : Bool) → in_code w fs ≡ i → (s h : Bool) → has_charset fs ≡ h
          → Standing (cond i fs (cond s (map (charset_field w) fs) (cond h (map (charset_field w) (map (recode_field w) fs)) (resum (with_charset w (map (recode_field w) fs))))))
      go true p s h q = st
      go false p true h q = marked-standing w fs st
      go false p false true q = marked-standing w gs (recoded-standing w fs st)
      go false p false false q =
          gained-standing gs (recoded-standing w fs st) (charset-kept w fs ∙ q)
          (rw (length-map fs (recode_field w)) (added-few w fs (append-none (added_faults w fs) _ e).0 p q))

-- ---- in the wanted code page

pub has_here : (f : Field) (fs : List Field) → f.label ≡ 9206 → has_charset (f ∷ fs) ≡ true
unfolding elem
has_here f fs e = rw (eq-eqb 9206 f.label (sym e))

pub has-later : (f : Field) (fs : List Field) → (f.label ≡ 9206 → ⊥) → has_charset (f ∷ fs) ≡ has_charset fs
unfolding elem
has-later f fs n = rw (ne_eqb 9206 f.label (λ e. n (sym e)))

has-then : (f : Field) (fs : List Field) → has_charset fs ≡ true → has_charset (f ∷ fs) ≡ true
unfolding elem
has-then f fs e = or_right (eqb 9206 f.label) e

pub says-9206 : (w : Code) (f : Field) → line_names_code w f ≡ true → f.label ≡ 9206
unfolding line_names_code
says-9206 w f e = eqb-true f.label 9206 (and_left (eqb f.label 9206) _ e)

pub says-has : (w : Code) (fs : List Field) → names_code w fs ≡ true → has_charset fs ≡ true
unfolding names_code
says-has w [] e = absurd (true≢false (sym e))
says-has w (f ∷ fs) e = go (line_names_code w f) refl e (says-has w fs)
  where
    go : (t : Bool) → line_names_code w f ≡ t → t || names_code w fs ≡ true → (names_code w fs ≡ true → has_charset fs ≡ true) → has_charset (f ∷ fs) ≡ true
    go true p q later = has_here f fs (says-9206 w f p)
    go false p q later = has-then f fs (later q)

pub seven-9206 : (f : Field) → says_seven_bit f ≡ true → f.label ≡ 9206
unfolding says_seven_bit
seven-9206 f e = eqb-true f.label 9206 (and_left (eqb f.label 9206) _ e)

pub seven-has : (fs : List Field) → seven_bit fs ≡ true → has_charset fs ≡ true
unfolding seven_bit
seven-has [] e = absurd (true≢false (sym e))
seven-has (f ∷ fs) e = go (says_seven_bit f) refl e (seven-has fs)
  where
    go : (t : Bool) → says_seven_bit f ≡ t → t || seven_bit fs ≡ true → (seven_bit fs ≡ true → has_charset fs ≡ true) → has_charset (f ∷ fs) ≡ true
    go true p q later = has_here f fs (seven-9206 f p)
    go false p q later = has-then f fs (later q)

says-mark : (w : Code) → line_names_code w (field 9206 (charset_of w)) ≡ true
unfolding line_names_code
says-mark w = bytes_same (charset_of w)

pub says-marked : (w : Code) (fs : List Field) → has_charset fs ≡ true → names_code w (map (charset_field w) fs) ≡ true
unfolding names_code elem
says-marked w [] e = absurd (true≢false (sym e))
says-marked w (f ∷ fs) e = go (eqb f.label 9206) refl (says-marked w fs)
  where
    go : (t : Bool) → eqb f.label 9206 ≡ t → (has_charset fs ≡ true → names_code w (map (charset_field w) fs) ≡ true)
        → line_names_code w (cond t (field 9206 (charset_of w)) f) || names_code w (map (charset_field w) fs) ≡ true
    go true p later = rw (says-mark w)
    go false p later = or_right (line_names_code w f) (later (sym (has-later f fs (eqb-false f.label 9206 p)) ∙ e))

pub says-gained : (w : Code) (fs : List Field) → 2 ≤ length fs → names_code w (resum (with_charset w fs)) ≡ true
unfolding names_code
says-gained w [] l = absurd (omega arith)
says-gained w (f ∷ []) l = absurd (omega arith)
says-gained w (f ∷ g ∷ fs) l = or_right (line_names_code w f) (or_right (line_names_code w _) (rw (says-mark w)))

says-in : (w : Code) (fs : List Field) → names_code w fs ≡ true → in_code w fs ≡ true
unfolding in_code
says-in Page437 fs e = rw e
says-in Page1252 fs e = e

-- a set in code page 1252 says so
pub in-1252 : (fs : List Field) → in_code Page1252 fs ≡ true → has_charset fs ≡ true
unfolding in_code
in-1252 fs e = says-has Page1252 fs e

module _ (w : Code) (fs : List Field) (st : Standing fs) where
  pub recoded-in-code : in_code w (recode_lines w fs) ≡ true
  unfolding recode_lines
  recoded-in-code = go (in_code w fs) refl (seven_bit fs) refl (has_charset fs) refl
    where
      gs : List Field
      gs = map (recode_field w) fs

      go : (i : Bool) → in_code w fs ≡ i → (s : Bool) → seven_bit fs ≡ s → (h : Bool) → has_charset fs ≡ h
          → in_code w (cond i fs (cond s (map (charset_field w) fs) (cond h (map (charset_field w) (map (recode_field w) fs)) (resum (with_charset w (map (recode_field w) fs)))))) ≡ true
      go true p s q h r = p
      go false p true q h r = says-in w _ (says-marked w fs (seven-has fs q))
      go false p false q true r = says-in w _ (says-marked w gs (charset-kept w fs ∙ r))
      go false p false q false r = says-in w _ (says-gained w gs (rw (length-map fs (recode_field w)) (two fs (upright fs st))))

  -- without a gained line the set has as many bytes as before
  pub size-kept : gains w fs ≡ false → size (recode_lines w fs) ≡ size fs
  unfolding recode_lines
  size-kept e = go (in_code w fs) (seven_bit fs) (has_charset fs) e
    where
      gs : List Field
      gs = map (recode_field w) fs

      rules : Ruled fs
      rules = (ruled fs st.right).0

      go : (i s h : Bool) → not (i || h) ≡ false
          → size (cond i fs (cond s (map (charset_field w) fs) (cond h (map (charset_field w) (map (recode_field w) fs)) (resum (with_charset w (map (recode_field w) fs)))))) ≡ size fs
      go true s h q = refl
      go false true h q = size-map (charset_field w) (alters-mark w) (profile fs) first 0 fs rules.each-line
      go false false true q =
          size-map (charset_field w) (alters-mark w) (profile gs) first 0 gs (ruled gs (recoded-standing w fs st).right).0.each-line
          ∙ size-map (recode_field w) (alters-recode w) (profile fs) first 0 fs rules.each-line
      go false false false q = absurd (true≢false q)
