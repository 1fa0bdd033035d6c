-- The code page of a set: what the tests say of it is what its lines are. In a set that keeps the rules at most one line is 9206, and it holds 1, 2 or 3; so the set is in the wanted code
-- page, has seven bits, names the other code page, or has no 9206, and never two of these.
use mathlib.Core.Path.{◌≡◌, refl, sym, ap, ◌∙◌, subst}
use mathlib.Core.Bool.{Bool, true, false, not, ◌&&◌, ◌||◌, true≢false}
use mathlib.Core.List.{List, [], ◌∷◌}
use mathlib.Core.Logic.{◌⊎◌, inl, inr}
use Prim.Native.Nat.{ℕ, zero, suc, ◌+◌, ◌≤◌, ◌<◌}
use native.Mathlib.Omega.{arith}
use lib.Dec.{leb, eqb}
use lib.ListN.{length, get_or}
use borrow.Author.Tests.{eqb-true, eqb-false, eq-eqb, leb-true}
use Rattle.meaning.specs.declared.Row.{Row}
use Rattle.meaning.specs.declared.SetType.{SetType}
use Rattle.meaning.specs.declared.SetType.TheVariants.{T6300, T6301, T6302, T6310, T6311}
use Rattle.meaning.specs.Digits.{digits, digit_zero}
use Rattle.meaning.specs.Field.{Field, field, elem, label_at_line, content_at_line}
use Rattle.meaning.specs.Kinds.{first_is_in, is_charset, of_kind}
use Rattle.meaning.specs.FieldTable.{field_table, field_row_in, field_row, has_length, fits_row, fits_label}
use Rattle.meaning.specs.Tables.{set_level, single, rows6300, rows6301, rows6302, rows6310, rows6311, table, row_label, find_in, find}
use Rattle.meaning.specs.Rules.{seven_bit}
use Rattle.meaning.proofs.Bools.{and_left, and_right, or_right, not-true}
use Rattle.meaning.proofs.SameLaws.{same-bytes, bytes_same}
use Rattle.keeps.specs.Keeps.{HasRow, HasSevenBits, KeepsRules}
use Rattle.keeps.proofs.TableFacts.{or_cases, no-absurd, one-row}
use Rattle.keeps.proofs.SevenExact.{seven-has}
use Rattle.meaning_recode.specs.declared.Code.{Code}
use Rattle.meaning_recode.specs.declared.Code.TheVariants.{Page437, Page1252}
use Rattle.meaning_recode.specs.Recoding.{charset_of, line_names_code, names_code, has_charset, in_code}
use Rattle.theory_recode.specs.RecodeRules.{not_wanted, code_digit, Names, NoCharset, IsIn}

-- ---- tests and lines, of any lines

pub mark-is : (w : Code) → charset_of w ≡ digits 1 (code_digit w)
mark-is Page437 = refl
mark-is Page1252 = refl

says-line : (w : Code) (f : Field) → line_names_code w f ≡ true → f ≡ field 9206 (digits 1 (code_digit w))
unfolding line_names_code
says-line w f e =
    let l : f.label ≡ 9206 = eqb-true _ _ (and_left (eqb f.label 9206) _ e) in
    let c : f.content ≡ digits 1 (code_digit w) = same-bytes _ _ (and_right (eqb f.label 9206) _ e) ∙ mark-is w in
    λ i. record { label = l i; content = c i }

line-says : (w : Code) (f : Field) → f ≡ field 9206 (digits 1 (code_digit w)) → line_names_code w f ≡ true
unfolding line_names_code
line-says w f e =
    let c : f.content ≡ charset_of w = ap (λ (g : Field). g.content) e ∙ sym (mark-is w) in
    rw (eq-eqb f.label 9206 (ap (λ (g : Field). g.label) e), c, bytes_same (charset_of w)) refl

pub says-names : (w : Code) (fs : List Field) → names_code w fs ≡ true → Names w fs
unfolding names_code
says-names w [] e = absurd (true≢false (sym e))
says-names w (f ∷ fs) e = go (or_cases (line_names_code w f) (names_code w fs) e) (λ p. says-names w fs p)
  where
    go : (line_names_code w f ≡ true) ⊎ (names_code w fs ≡ true) → (names_code w fs ≡ true → Names w fs) → Names w (f ∷ fs)
    go (inl p) ih = (0, omega arith, says-line w f p)
    go (inr p) ih = let h = ih p in (suc h.0, omega (arith, h.1), h.2)

pub names-says : (w : Code) (fs : List Field) → Names w fs → names_code w fs ≡ true
unfolding names_code
names-says w [] (k, l, e) = absurd (omega arith)
names-says w (f ∷ fs) (zero, l, e) = rw (line-says w f e) refl
names-says w (f ∷ fs) (suc k, l, e) = or_right (line_names_code w f) (names-says w fs (k, omega arith, e))

-- a line is 9206
abbrev pub HasCharset : List Field → Type 0
HasCharset fs = (k : ℕ) × (k < length fs) × (label_at_line fs k ≡ 9206)

pub charset-has : (fs : List Field) → has_charset fs ≡ true → HasCharset fs
unfolding elem
charset-has [] e = absurd (true≢false (sym e))
charset-has (f ∷ fs) e = go (or_cases (eqb 9206 f.label) (has_charset fs) e) (λ p. charset-has fs p)
  where
    go : (eqb 9206 f.label ≡ true) ⊎ (has_charset fs ≡ true) → (has_charset fs ≡ true → HasCharset fs) → HasCharset (f ∷ fs)
    go (inl p) ih = (0, omega arith, sym (eqb-true _ _ p))
    go (inr p) ih = let h = ih p in (suc h.0, omega (arith, h.1), h.2)

pub has-charset : (fs : List Field) → HasCharset fs → has_charset fs ≡ true
unfolding elem
has-charset [] (k, l, e) = absurd (omega arith)
has-charset (f ∷ fs) (zero, l, e) = rw (eq-eqb 9206 f.label (sym e)) refl
has-charset (f ∷ fs) (suc k, l, e) = or_right (eqb 9206 f.label) (has-charset fs (k, omega arith, e))

pub no-charset : (fs : List Field) → has_charset fs ≡ false → NoCharset fs
no-charset fs e k l q = no-absurd (has-charset fs (k, l, q)) e

pub charset-no : (fs : List Field) → NoCharset fs → has_charset fs ≡ false
charset-no fs h = go (has_charset fs) refl
  where
    go : (b : Bool) → has_charset fs ≡ b → b ≡ false
    go true p = let x = charset-has fs p in absurd (h x.0 x.1 x.2)
    go false p = refl

pub named-charset : (w : Code) (fs : List Field) → Names w fs → HasCharset fs
named-charset w fs (k, l, e) = (k, l, ap (λ (f : Field). f.label) e)

pub seven-charset : (fs : List Field) → HasSevenBits fs → HasCharset fs
seven-charset fs (k, l, e, c) = (k, l, e)

-- the set is in the code page
pub in_is : (w : Code) (fs : List Field) → in_code w fs ≡ true → IsIn w fs
unfolding in_code
in_is Page437 fs e = go (or_cases (names_code Page437 fs) _ e)
  where
    go : (names_code Page437 fs ≡ true) ⊎ (not (has_charset fs) ≡ true) → IsIn Page437 fs
    go (inl p) = inl (says-names Page437 fs p)
    go (inr p) = inr (no-charset fs (not-true _ p))
in_is Page1252 fs e = says-names Page1252 fs e

pub is-in : (w : Code) (fs : List Field) → IsIn w fs → in_code w fs ≡ true
unfolding in_code
is-in Page437 fs (inl h) = rw (names-says Page437 fs h) refl
is-in Page437 fs (inr h) = or_right (names_code Page437 fs) (ap not (charset-no fs h))
is-in Page1252 fs h = names-says Page1252 fs h

pub not_in : (w : Code) (fs : List Field) → (IsIn w fs → ⊥) → in_code w fs ≡ false
not_in w fs h = go (in_code w fs) refl
  where
    go : (b : Bool) → in_code w fs ≡ b → b ≡ false
    go true p = absurd (h (in_is w fs p))
    go false p = refl

pub not-seven-bits : (fs : List Field) → (HasSevenBits fs → ⊥) → seven_bit fs ≡ false
not-seven-bits fs h = go (seven_bit fs) refl
  where
    go : (b : Bool) → seven_bit fs ≡ b → b ≡ false
    go true p = absurd (h (seven-has fs p))
    go false p = refl

-- ---- of a set that keeps the rules

-- 9206 is single at set level in every table
charset-row : (t : SetType) → (r : Row) × HasRow t 9206 r × (r.under ≡ set_level) × (r.many ≡ single)
unfolding table rows6300 rows6301 rows6302 rows6310 rows6311 find find_in row_label
charset-row T6300 = (_, refl, refl, refl)
charset-row T6301 = (_, refl, refl, refl)
charset-row T6302 = (_, refl, refl, refl)
charset-row T6310 = (_, refl, refl, refl)
charset-row T6311 = (_, refl, refl, refl)

-- "9206: 1, 2 or 3."
abbrev pub CharsetDigit : List ℕ → Type 0
CharsetDigit c = (c ≡ digits 1 1) ⊎ ((c ≡ digits 1 2) ⊎ (c ≡ digits 1 3))

charset-digit : (c : List ℕ) → fits_label 9206 c ≡ true → CharsetDigit c
unfolding fits_label fits_row field_row field_row_in field_table row_label has_length of_kind is_charset first_is_in elem
charset-digit [] e = absurd (true≢false (sym e))
charset-digit (b ∷ []) e = go (or_cases (eqb b (digit_zero + 1)) _ (and_right (has_length (field_row 9206) (b ∷ [])) _ e))
  where
    third : (eqb b (digit_zero + 3) ≡ true) ⊎ (false ≡ true) → CharsetDigit (b ∷ [])
    third (inl p) = inr (inr (ap (λ (x : ℕ). x ∷ []) (eqb-true b (digit_zero + 3) p)))
    third (inr p) = absurd (true≢false (sym p))

    second : (eqb b (digit_zero + 2) ≡ true) ⊎ (eqb b (digit_zero + 3) || false ≡ true) → CharsetDigit (b ∷ [])
    second (inl p) = inr (inl (ap (λ (x : ℕ). x ∷ []) (eqb-true b (digit_zero + 2) p)))
    second (inr p) = third (or_cases (eqb b (digit_zero + 3)) _ p)

    go : (eqb b (digit_zero + 1) ≡ true) ⊎ (eqb b (digit_zero + 2) || (eqb b (digit_zero + 3) || false) ≡ true) → CharsetDigit (b ∷ [])
    go (inl p) = inl (ap (λ (x : ℕ). x ∷ []) (eqb-true b (digit_zero + 1) p))
    go (inr p) = second (or_cases (eqb b (digit_zero + 2)) _ p)
charset-digit (b ∷ d ∷ c) e =
    let s : leb 1 (length (b ∷ d ∷ c)) && leb (length (b ∷ d ∷ c)) 1 ≡ true = and_left _ _ e in
    let hi : length (b ∷ d ∷ c) ≤ 1 = leb-true (length (b ∷ d ∷ c)) 1 (and_right (leb 1 (length (b ∷ d ∷ c))) _ s) in
    absurd (omega arith)

-- what is known of 9206 in such a set
pub record OneCharset (fs : List Field) : Type 0 where
  pub one : (i j : ℕ) → i < length fs → j < length fs → label_at_line fs i ≡ 9206 → label_at_line fs j ≡ 9206 → i ≡ j
  pub digit : (k : ℕ) → k < length fs → label_at_line fs k ≡ 9206 → CharsetDigit (content_at_line fs k)

pub one-charset : (t : SetType) (fs : List Field) → KeepsRules t fs → OneCharset fs
one-charset t fs r = record {
  one = λ i j p q a b. go i j p q a b (eqb i j) refl;
  digit = λ k l e. charset-digit (content_at_line fs k) (subst (λ (n : ℕ). fits_label n (content_at_line fs k) ≡ true) e (r.contents-fit k l));
}
  where
    go : (i j : ℕ) → i < length fs → j < length fs → label_at_line fs i ≡ 9206 → label_at_line fs j ≡ 9206 → (b : Bool) → eqb i j ≡ b → i ≡ j
    go i j p q a b true e = eqb-true i j e
    go i j p q a b false e =
        let c = charset-row t in
        let h : HasRow t (label_at_line fs i) c.0 = subst (λ (n : ℕ). HasRow t n c.0) (sym a) c.1 in
        let again = r.not-repeated-in-set i j p q (eqb-false i j e) (a ∙ sym b) (c.0, h, c.2) in
        no-absurd again.2 (ap (λ (x : Row). x.many) (one-row t (label_at_line fs i) again.0 c.0 again.1 h) ∙ c.3)

module _ (fs : List Field) (o : OneCharset fs) where
  -- two lines that are 9206 have one content
  same-content : (i j : ℕ) → i < length fs → j < length fs → label_at_line fs i ≡ 9206 → label_at_line fs j ≡ 9206 → content_at_line fs i ≡ content_at_line fs j
  same-content i j p q a b = ap (λ (k : ℕ). content_at_line fs k) (o.one i j p q a b)

  -- so none of these two stand together
  pub named-not-seven : (w : Code) → Names w fs → HasSevenBits fs → ⊥
  named-not-seven w (k, l, e) (j, m, a, c) =
      go w (sym (ap (λ (f : Field). f.content) e) ∙ (same-content k j l m (ap (λ (f : Field). f.label) e) a ∙ c))
    where
      go : (v : Code) → digits 1 (code_digit v) ≡ digits 1 1 → ⊥
      go Page437 q = omega (arith, ap (λ (x : List ℕ). get_or x 0 0) q)
      go Page1252 q = omega (arith, ap (λ (x : List ℕ). get_or x 0 0) q)

  pub named-once : (w : Code) → Names (not_wanted w) fs → Names w fs → ⊥
  named-once w (k, l, e) (j, m, f) =
      go w (sym (ap (λ (x : Field). x.content) e) ∙ (same-content k j l m (ap (λ (x : Field). x.label) e) (ap (λ (x : Field). x.label) f) ∙ ap (λ (x : Field). x.content) f))
    where
      go : (v : Code) → digits 1 (code_digit (not_wanted v)) ≡ digits 1 (code_digit v) → ⊥
      go Page437 q = omega (arith, ap (λ (x : List ℕ). get_or x 0 0) q)
      go Page1252 q = omega (arith, ap (λ (x : List ℕ). get_or x 0 0) q)

  has-or-none : HasCharset fs → NoCharset fs → ⊥
  has-or-none (k, l, e) n = n k l e

  pub seven-not-in : (w : Code) → HasSevenBits fs → IsIn w fs → ⊥
  seven-not-in Page437 s (inl n) = named-not-seven Page437 n s
  seven-not-in Page437 s (inr n) = has-or-none (seven-charset fs s) n
  seven-not-in Page1252 s n = named-not-seven Page1252 n s

  pub other-not-in : (w : Code) → Names (not_wanted w) fs → IsIn w fs → ⊥
  other-not-in Page437 s (inl n) = named-once Page437 s n
  other-not-in Page437 s (inr n) = has-or-none (named-charset Page1252 fs s) n
  other-not-in Page1252 s n = named-once Page1252 s n

  pub none-not-in : NoCharset fs → IsIn Page1252 fs → ⊥
  none-not-in s n = has-or-none (named-charset Page1252 fs n) s

  -- and one of the four holds
  pub data Which (w : Code) : Type 0 where
    already : IsIn w fs → Which w
    seven : HasSevenBits fs → Which w
    other : Names (not_wanted w) fs → Which w
    without : w ≡ Page1252 → NoCharset fs → Which w

  pub which : (w : Code) → Which w
  which w = go w (has_charset fs) refl
    where
      at : (v : Code) (k : ℕ) → k < length fs → label_at_line fs k ≡ 9206 → CharsetDigit (content_at_line fs k) → Which v
      at v k l e (inl c) = seven (k, l, e, c)
      at Page437 k l e (inr (inl c)) = already (inl (k, l, λ i. record { label = e i; content = c i }))
      at Page437 k l e (inr (inr c)) = other (k, l, λ i. record { label = e i; content = c i })
      at Page1252 k l e (inr (inl c)) = other (k, l, λ i. record { label = e i; content = c i })
      at Page1252 k l e (inr (inr c)) = already (k, l, λ i. record { label = e i; content = c i })

      go : (v : Code) (b : Bool) → has_charset fs ≡ b → Which v
      go v true p = let h = charset-has fs p in at v h.0 h.1 h.2 (o.digit h.0 h.1 h.2)
      go Page437 false p = already (inr (no-charset fs p))
      go Page1252 false p = without refl (no-charset fs p)
