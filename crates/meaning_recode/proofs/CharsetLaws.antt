-- At most one line of an accepted set is 9206, so what that line holds decides: it names one code page, or seven bits, and not two of these.
use mathlib.Core.Path.{◌≡◌, refl, sym, ◌∙◌}
use mathlib.Core.Bool.{Bool, true, false, ◌&&◌, ◌||◌, true≢false}
use mathlib.Core.List.{List, [], ◌∷◌, map}
use Prim.Native.Nat.{ℕ, ◌+◌}
use lib.Dec.{eqb}
use borrow.Author.Tests.{eqb-true}
use Rattle.meaning.specs.Digits.{digits}
use Rattle.meaning.specs.Field.{Field, elem}
use Rattle.meaning.specs.Kinds.{same_bytes}
use Rattle.meaning.specs.Groups.{State, first, next}
use Rattle.meaning.specs.Tables.{find}
use Rattle.meaning.specs.Rules.{Profile, profile, rows_of, is_known, role_in, line_rules, rules_from, says_seven_bit, seven_bit}
use Rattle.meaning.proofs.Bools.{Every, and_right}
use Rattle.meaning.proofs.SameLaws.{same-bytes}
use Rattle.meaning.proofs.FaultLaws.{append-none}
use Rattle.meaning.proofs.RuleLaws.{Ruled, begins-of}
use Rattle.meaning.proofs.WriterLaws.{Single}
use Rattle.meaning.proofs.SevenLaws.{single-9206, none_after}
use Rattle.meaning_recode.specs.declared.Code.{Code}
use Rattle.meaning_recode.specs.declared.Code.TheVariants.{Page437, Page1252}
use Rattle.meaning_recode.specs.Recoding.{charset_of, line_names_code, names_code, has_charset, in_code, charset_field}
use Rattle.meaning_recode.proofs.CodeLaws.{other}
use Rattle.meaning_recode.proofs.InsertLaws.{NoCharset}
use Rattle.meaning_recode.proofs.MapLaws.{pick}
use Rattle.meaning_recode.proofs.StandLaws.{has-later, says-9206, says-has, seven-9206, seven-has}
use Rattle.meaning.specs.Results.{Known}
use Rattle.std.specs.Prelude.{None, Some}

-- ---- at most one

abbrev pub OneCharset : List Field → Type 0
OneCharset [] = Unit
OneCharset (f ∷ fs) = (f.label ≡ 9206 → NoCharset fs) × OneCharset fs

one_from : (p : Profile) → Single 9206 (find (rows_of p) 9206) → (st : State) (k : ℕ) (fs : List Field) → rules_from p st k fs ≡ [] → OneCharset fs
unfolding rules_from
one_from p s st k [] e = tt
one_from p s st k (f ∷ fs) e =
    (λ l. none_after p s st k f fs e l, one_from p s (next (role_in p st f) st k f.label) (k + 1) fs (append-none (line_rules (role_in p st f) p st k f) _ e).1)

pub one-charset : (fs : List Field) → Ruled fs → OneCharset fs
one-charset fs r = go (profile fs).set_type (begins-of fs r.begins).type-known r.each-line
  where
    go : (t : Known) → is_known t ≡ true → rules_from (record { set_type = t }) first 0 fs ≡ [] → OneCharset fs
    go (Some t) q e = one_from (record { set_type = Some t }) (single-9206 t) first 0 fs e
    go None q e = absurd (true≢false (sym q))

none_has : (fs : List Field) → NoCharset fs → has_charset fs ≡ false
unfolding elem
none_has [] h = refl
none_has (f ∷ fs) h = has-later f fs h.0 ∙ none_has fs h.1

-- ---- what it holds

-- every line that is 9206 holds c
abbrev pub AllHold : List ℕ → List Field → Type 0
AllHold c fs = Every (λ f. f.label ≡ 9206 → f.content ≡ c) fs

pub none-hold : (c : List ℕ) (fs : List Field) → NoCharset fs → AllHold c fs
none-hold c [] h = tt
none-hold c (f ∷ fs) h = (λ l. absurd (h.0 l), none-hold c fs h.1)

-- a line after f is 9206, so f is not
not-here : (f : Field) (fs : List Field) → OneCharset (f ∷ fs) → has_charset fs ≡ true → f.label ≡ 9206 → ⊥
not-here f fs o e l = true≢false (sym e ∙ none_has fs (o.0 l))

pub says-hold : (w : Code) (fs : List Field) → OneCharset fs → names_code w fs ≡ true → AllHold (charset_of w) fs
unfolding names_code line_names_code
says-hold w [] o e = tt
says-hold w (f ∷ fs) o e = go (line_names_code w f) refl e (says-hold w fs o.1)
  where
    go : (t : Bool) → line_names_code w f ≡ t → t || names_code w fs ≡ true → (names_code w fs ≡ true → AllHold (charset_of w) fs) → AllHold (charset_of w) (f ∷ fs)
    go true p q later =
        (λ l. same-bytes f.content (charset_of w) (and_right (eqb f.label 9206) _ p), none-hold (charset_of w) fs (o.0 (says-9206 w f p)))
    go false p q later = (λ l. absurd (not-here f fs o (says-has w fs q) l), later q)

pub seven-hold : (fs : List Field) → OneCharset fs → seven_bit fs ≡ true → AllHold (digits 1 1) fs
unfolding seven_bit says_seven_bit
seven-hold [] o e = tt
seven-hold (f ∷ fs) o e = go (says_seven_bit f) refl e (seven-hold fs o.1)
  where
    go : (t : Bool) → says_seven_bit f ≡ t → t || seven_bit fs ≡ true → (seven_bit fs ≡ true → AllHold (digits 1 1) fs) → AllHold (digits 1 1) (f ∷ fs)
    go true p q later =
        (λ l. same-bytes f.content (digits 1 1) (and_right (eqb f.label 9206) _ p), none-hold (digits 1 1) fs (o.0 (seven-9206 f p)))
    go false p q later = (λ l. absurd (not-here f fs o (seven-has fs q) l), later q)

pub marked-hold : (w : Code) (fs : List Field) → AllHold (charset_of w) (map (charset_field w) fs)
marked-hold w [] = tt
marked-hold w (f ∷ fs) = (pick w (λ (x : Field). x.label ≡ 9206 → x.content ≡ charset_of w) f (λ e l. refl) (λ n l. absurd (n l)), marked-hold w fs)

-- ---- so it names nothing else

-- the test of a line with content c
not-content : (f : Field) (c d : List ℕ) → (f.label ≡ 9206 → f.content ≡ c) → same_bytes c d ≡ false → eqb f.label 9206 && same_bytes f.content d ≡ false
not-content f c d h e = go (eqb f.label 9206) refl
  where
    go : (t : Bool) → eqb f.label 9206 ≡ t → t && same_bytes f.content d ≡ false
    go true p = rw (h (eqb-true f.label 9206 p)) e
    go false p = refl

not-says : (w : Code) (c : List ℕ) (fs : List Field) → same_bytes c (charset_of w) ≡ false → AllHold c fs → names_code w fs ≡ false
unfolding names_code line_names_code
not-says w c [] e h = refl
not-says w c (f ∷ fs) e h = rw (not-content f c (charset_of w) h.0 e, not-says w c fs e h.1)

pub not-seven-bits : (c : List ℕ) (fs : List Field) → same_bytes c (digits 1 1) ≡ false → AllHold c fs → seven_bit fs ≡ false
unfolding seven_bit says_seven_bit
not-seven-bits c [] e h = refl
not-seven-bits c (f ∷ fs) e h = rw (not-content f c (digits 1 1) h.0 e, not-seven-bits c fs e h.1)

pub not-in-code : (w : Code) (c : List ℕ) (fs : List Field) → same_bytes c (charset_of w) ≡ false → AllHold c fs → has_charset fs ≡ true → in_code w fs ≡ false
unfolding in_code
not-in-code Page437 c fs e h q = rw (not-says Page437 c fs e h, q)
not-in-code Page1252 c fs e h q = not-says Page1252 c fs e h

-- no mark is that of the other code page, and that of seven bits is none
pub marks-differ : (w : Code) → (same_bytes (charset_of w) (charset_of (other w)) ≡ false) × (same_bytes (charset_of (other w)) (charset_of w) ≡ false)
unfolding same_bytes
marks-differ Page437 = (refl, refl)
marks-differ Page1252 = (refl, refl)

pub seven-no-mark : (w : Code) → same_bytes (digits 1 1) (charset_of w) ≡ false
unfolding same_bytes
seven-no-mark Page437 = refl
seven-no-mark Page1252 = refl
