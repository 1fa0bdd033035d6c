-- Which code page a set is in, by the one line that is 9206: what stands in its content, or that there is none.
use mathlib.Core.Path.{◌≡◌, refl, sym, ap, ◌∙◌, subst}
use mathlib.Core.Bool.{Bool, true, false, not, ◌&&◌, ◌||◌}
use mathlib.Core.List.{List, [], ◌∷◌}
use Prim.Native.Nat.{ℕ, zero, suc, ◌+◌, ◌≤◌, ◌<◌}
use native.Mathlib.Omega.{arith}
use lib.Dec.{leb, eqb}
use lib.ListN.{length, get_or}
use borrow.Author.Tests.{eq-eqb, ne_eqb, leb-true}
use Rattle.meaning.specs.Field.{Field, elem, label_at_line, content_at_line}
use Rattle.meaning.specs.Kinds.{same_bytes}
use Rattle.meaning.specs.FieldTable.{field_table, field_row_in, field_row, has_length, fits_row, fits_label}
use Rattle.meaning.specs.Tables.{row_label, find}
use Rattle.meaning.specs.Groups.{State, first, next}
use Rattle.meaning.specs.Rules.{Profile, rows_of, role_in, line_rules, rules_from}
use Rattle.meaning.proofs.Bools.{and_left, and_right}
use Rattle.meaning.proofs.FaultLaws.{append-none}
use Rattle.meaning.proofs.WriterLaws.{Single}
use Rattle.meaning.proofs.SevenLaws.{single-9206, only, no_table, charset-digit, line-fits-at}
use Rattle.meaning_recode.specs.declared.Code.{Code}
use Rattle.meaning_recode.specs.declared.Code.TheVariants.{Page437, Page1252}
use Rattle.meaning_recode.specs.Recoding.{charset_of, line_names_code, names_code, has_charset, in_code}
use Rattle.line_find.proofs.FirstPlaceLaws.{NoLine}
use Rattle.meaning.specs.Results.{Known}
use Rattle.std.specs.Prelude.{None, Some}

-- 9206 names a code page by one byte
pub mark-one : (w : Code) → charset_of w ≡ get_or (charset_of w) 0 0 ∷ []
mark-one Page437 = refl
mark-one Page1252 = refl

-- ---- whether a line is 9206

pub has-none : (fs : List Field) → NoLine 9206 fs → has_charset fs ≡ false
unfolding elem
has-none [] h = refl
has-none (f ∷ fs) h = rw (ne_eqb 9206 f.label (λ e. h 0 (omega arith) (sym e))) (has-none fs (λ k l. h (suc k) (omega arith)))

pub has_one : (fs : List Field) (k : ℕ) → k < length fs → label_at_line fs k ≡ 9206 → has_charset fs ≡ true
unfolding elem
has_one [] k l e = absurd (omega arith)
has_one (f ∷ fs) zero l e = rw (eq-eqb 9206 f.label (sym e))
has_one (f ∷ fs) (suc k) l e = go (eqb 9206 f.label) (has_one fs k (omega arith) e)
  where
    go : (b : Bool) {c : Bool} → c ≡ true → b || c ≡ true
    go true q = refl
    go false q = q

-- ---- what it names

module _ (w : Code) where
  not-says : (f : Field) → (f.label ≡ 9206 → ⊥) → line_names_code w f ≡ false
  unfolding line_names_code
  not-says f n = rw (ne_eqb f.label 9206 n)

  says-by-content : (f : Field) → f.label ≡ 9206 → line_names_code w f ≡ same_bytes f.content (charset_of w)
  unfolding line_names_code
  says-by-content f e = rw (eq-eqb f.label 9206 e)

  pub says_none : (fs : List Field) → NoLine 9206 fs → names_code w fs ≡ false
  unfolding names_code
  says_none [] h = refl
  says_none (f ∷ fs) h = rw (not-says f (h 0 (omega arith))) (says_none fs (λ k l. h (suc k) (omega arith)))

  or_no : (b : Bool) → b || false ≡ b
  or_no true = refl
  or_no false = refl

  says-from : (p : Profile) → Single 9206 (find (rows_of p) 9206) → (st : State) (k : ℕ) (fs : List Field) → rules_from p st k fs ≡ []
      → (j : ℕ) → j < length fs → label_at_line fs j ≡ 9206 → names_code w fs ≡ same_bytes (content_at_line fs j) (charset_of w)
  unfolding names_code rules_from
  says-from p s st k [] h j l e = absurd (omega arith)
  says-from p s st k (f ∷ fs) h zero l e = rw (says_none fs (only p s st k f fs h e), or_no) (says-by-content f e)
  says-from p s st k (f ∷ fs) h (suc j) l e =
      rw (not-says f (λ q. only p s st k f fs h q j (omega arith) e))
      (says-from p s (next (role_in p st f) st k f.label) (k + 1) fs (append-none (line_rules (role_in p st f) p st k f) _ h).1 j (omega arith) e)

  -- of lines that keep 11 to 13 the line that is 9206 decides, since it is the only one
  says-once : (p : Profile) (fs : List Field) → rules_from p first 0 fs ≡ [] → (k : ℕ) → k < length fs → label_at_line fs k ≡ 9206
      → names_code w fs ≡ same_bytes (content_at_line fs k) (charset_of w)
  says-once p fs = go p.set_type
    where
      go : (t : Known) → rules_from (record { set_type = t }) first 0 fs ≡ [] → (k : ℕ) → k < length fs → label_at_line fs k ≡ 9206
          → names_code w fs ≡ same_bytes (content_at_line fs k) (charset_of w)
      go (Some t) h = says-from (record { set_type = Some t }) (single-9206 t) first 0 fs h
      go None h = λ k l e. absurd (no_table fs h k l)

-- ---- its content is one byte

module _ (p : Profile) (fs : List Field) (h : rules_from p first 0 fs ≡ []) (k : ℕ) (l : k < length fs) (e : label_at_line fs k ≡ 9206) where
  fits-9206 : fits_label 9206 (content_at_line fs k) ≡ true
  fits-9206 = subst (λ (m : ℕ). fits_label m (content_at_line fs k) ≡ true) e (line-fits-at p first 0 fs h k l)

  -- which decides
  pub says-digit : (w : Code) → names_code w fs ≡ eqb (get_or (content_at_line fs k) 0 0) (get_or (charset_of w) 0 0)
  says-digit w = says-once w p fs h k l e ∙ (ap (same_bytes (content_at_line fs k)) (mark-one w) ∙ charset-digit (content_at_line fs k) (get_or (charset_of w) 0 0) fits-9206)

  pub charset-byte : length (content_at_line fs k) ≡ 1
  unfolding fits_label fits_row field_row field_row_in field_table row_label has_length
  charset-byte =
      let n : ℕ = length (content_at_line fs k) in
      let s : leb 1 n && leb n 1 ≡ true = and_left _ _ fits-9206 in
      let lo : 1 ≤ n = leb-true 1 n (and_left (leb 1 n) _ s) in
      let hi : n ≤ 1 = leb-true n 1 (and_right (leb 1 n) _ s) in
      omega (arith, lo, hi)

  -- a set with 9206 is in a code page exactly if 9206 names it
  pub in-marked : (w : Code) → in_code w fs ≡ names_code w fs
  unfolding in_code
  in-marked Page437 = rw (has_one fs k l e) (or-false (names_code Page437 fs))
    where
      or-false : (b : Bool) → b || not true ≡ b
      or-false true = refl
      or-false false = refl
  in-marked Page1252 = refl

-- a set without 9206 counts as code page 437
pub in-437 : (fs : List Field) → NoLine 9206 fs → in_code Page437 fs ≡ true
unfolding in_code
in-437 fs h = rw (says_none Page437 fs h, has-none fs h)

pub in-1252 : (fs : List Field) → NoLine 9206 fs → in_code Page1252 fs ≡ false
unfolding in_code
in-1252 fs h = says_none Page1252 fs h
