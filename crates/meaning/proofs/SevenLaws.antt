-- Seven bits: 24 is given once; of lines that keep 11 to 13 the one that is 9206 decides, and 9206 is then among the labels seen at set level.
use mathlib.Core.Path.{◌≡◌, refl, sym, ap, ◌∙◌, subst}
use mathlib.Core.Bool.{Bool, true, false, cond, ◌&&◌, ◌||◌, true≢false}
use mathlib.Core.List.{List, [], ◌∷◌, cons≢nil}
use Prim.Native.Nat.{ℕ, zero, suc, ◌+◌, ◌≤◌, ◌<◌}
use native.Mathlib.Omega.{arith}
use lib.Dec.{leb, eqb}
use lib.ListN.{length, take, get_or}
use borrow.Author.Tests.{eqb-true, eq-eqb, leb-true}
use Rattle.meaning.specs.declared.SetType.{SetType}
use Rattle.meaning.specs.declared.SetType.TheVariants.{T6300, T6301, T6302, T6310, T6311}
use Rattle.meaning.specs.Digits.{digits, digit_zero}
use Rattle.meaning.specs.Field.{Field, labels, elem, label_at_line, content_at_line}
use Rattle.meaning.specs.Refusals.{Fault}
use Rattle.meaning.specs.Kinds.{same_bytes}
use Rattle.meaning.specs.FieldTable.{field_table, field_row_in, field_row, has_length, fits_row, fits_label}
use Rattle.meaning.specs.Tables.{rows6300, rows6301, rows6302, rows6310, rows6311, table, row_label, find_in, find}
use Rattle.meaning.specs.Groups.{State, first, Role, role, role_of, next, after, label_faults}
use Rattle.meaning.specs.Rules.{Profile, rows_of, role_in, fits, line_rules, rules_from, says_seven_bit, seven_bit, high_from, high_faults}
use Rattle.meaning.proofs.Bools.{and_left, and_right, Every}
use Rattle.meaning.proofs.FaultLaws.{append-none}
use Rattle.meaning.proofs.RuleLaws.{line-fits, not-seven}
use Rattle.meaning.proofs.WriterLaws.{Single, role-at-set-level, once, top-keep, top-has}
use Rattle.meaning.specs.Results.{Known}
use Rattle.std.specs.Prelude.{None, Some}

-- ---- "place of the first such byte": one fault at most, whatever the number of bytes over 7Fh

pub high-once : (fs : List Field) → length (high_faults fs) ≤ 1
unfolding high_faults
high-once fs = go (seven_bit fs) (high_from 0 fs)
  where
    go : (b : Bool) (xs : List Fault) → length (cond b (take 1 xs) []) ≤ 1
    go false xs = omega arith
    go true [] = omega arith
    go true (x ∷ xs) = omega arith

-- ---- no line is 9206

pub seven-none : (fs : List Field) → ((k : ℕ) → k < length fs → label_at_line fs k ≡ 9206 → ⊥) → seven_bit fs ≡ false
unfolding seven_bit
seven-none [] h = refl
seven-none (f ∷ fs) h = rw (not-seven f (h 0 (omega arith))) (seven-none fs (λ k l. h (suc k) (omega arith)))

pub every-none : (fs : List Field) → Every (λ f. f.label ≡ 9206 → ⊥) fs → (k : ℕ) → k < length fs → label_at_line fs k ≡ 9206 → ⊥
every-none [] h k l e = omega arith
every-none (f ∷ fs) h zero l e = h.0 e
every-none (f ∷ fs) h (suc k) l e = every-none fs h.1 k (omega arith) e

-- ---- a line is 9206

-- 9206 is single at set level in every table
pub single-9206 : (t : SetType) → Single 9206 (find (table t) 9206)
unfolding table rows6300 rows6301 rows6302 rows6310 rows6311 find find_in row_label
single-9206 T6300 = record { known = _; is = refl; named-so = refl; top-level = refl; one = refl }
single-9206 T6301 = record { known = _; is = refl; named-so = refl; top-level = refl; one = refl }
single-9206 T6302 = record { known = _; is = refl; named-so = refl; top-level = refl; one = refl }
single-9206 T6310 = record { known = _; is = refl; named-so = refl; top-level = refl; one = refl }
single-9206 T6311 = record { known = _; is = refl; named-so = refl; top-level = refl; one = refl }

says-by-content : (f : Field) → f.label ≡ 9206 → says_seven_bit f ≡ same_bytes f.content (digits 1 1)
unfolding says_seven_bit
says-by-content f e = rw (eq-eqb f.label 9206 e)

or_no : (b : Bool) → b || false ≡ b
or_no true = refl
or_no false = refl

module _ (p : Profile) (s : Single 9206 (find (rows_of p) 9206)) where
  -- after a line that is 9206 no other is
  pub none_after : (st : State) (k : ℕ) (f : Field) (fs : List Field) → rules_from p st k (f ∷ fs) ≡ [] → f.label ≡ 9206 → Every (λ g. g.label ≡ 9206 → ⊥) fs
  unfolding rules_from
  none_after st k f fs h e =
      let a = append-none (line_rules (role_in p st f) p st k f) _ h in
      let o = role-at-set-level (find (rows_of p) f.label) s.known st.header f.label (ap (find (rows_of p)) e ∙ s.is) s.top-level in
      once p (next (role_in p st f) st k f.label) (k + 1) 9206 fs s (top-has (role_in p st f) s.known st k 9206 f.label o s.named-so) a.1

  pub only : (st : State) (k : ℕ) (f : Field) (fs : List Field) → rules_from p st k (f ∷ fs) ≡ [] → f.label ≡ 9206 → (j : ℕ) → j < length fs → label_at_line fs j ≡ 9206 → ⊥
  only st k f fs h e = every-none fs (none_after st k f fs h e)

  seven-from : (st : State) (k : ℕ) (fs : List Field) → rules_from p st k fs ≡ [] → (j : ℕ) → j < length fs → label_at_line fs j ≡ 9206
      → seven_bit fs ≡ same_bytes (content_at_line fs j) (digits 1 1)
  unfolding seven_bit rules_from
  seven-from st k [] h j l e = absurd (omega arith)
  seven-from st k (f ∷ fs) h zero l e = rw (seven-none fs (only st k f fs h e), or_no) (says-by-content f e)
  seven-from st k (f ∷ fs) h (suc j) l e =
      rw (not-seven f (λ q. only st k f fs h q j (omega arith) e))
      (seven-from (next (role_in p st f) st k f.label) (k + 1) fs (append-none (line_rules (role_in p st f) p st k f) _ h).1 j (omega arith) e)

-- without a table no line keeps 11
pub no_table : (fs : List Field) → rules_from (record { set_type = None }) first 0 fs ≡ [] → (k : ℕ) → k < length fs → ⊥
unfolding rules_from line_rules label_faults role role_of find find_in
no_table [] h k l = omega arith
no_table (f ∷ fs) h k l = cons≢nil h

-- of lines that keep 11 to 13 the line that is 9206 decides, since it is the only one
pub seven-once : (p : Profile) (fs : List Field) → rules_from p first 0 fs ≡ [] → (k : ℕ) → k < length fs → label_at_line fs k ≡ 9206
    → seven_bit fs ≡ same_bytes (content_at_line fs k) (digits 1 1)
seven-once p fs = go p.set_type
  where
    go : (t : Known) → rules_from (record { set_type = t }) first 0 fs ≡ [] → (k : ℕ) → k < length fs → label_at_line fs k ≡ 9206
        → seven_bit fs ≡ same_bytes (content_at_line fs k) (digits 1 1)
    go (Some t) h = seven-from (record { set_type = Some t }) (single-9206 t) first 0 fs h
    go None h = λ k l e. absurd (no_table fs h k l)

-- ---- the content of 9206 is one byte

-- so its first byte decides what it holds
pub charset-digit : (c : List ℕ) (n : ℕ) → fits_label 9206 c ≡ true → same_bytes c (n ∷ []) ≡ eqb (get_or c 0 0) n
unfolding fits_label fits_row field_row field_row_in field_table row_label has_length same_bytes
charset-digit [] n e = absurd (true≢false (sym e))
charset-digit (b ∷ []) n e = go (eqb b n)
  where
    go : (x : Bool) → x && true ≡ x
    go true = refl
    go false = refl
charset-digit (b ∷ d ∷ c) n e =
    let s : leb 1 (length (b ∷ d ∷ c)) && leb (length (b ∷ d ∷ c)) 1 ≡ true = and_left _ _ e in
    let hi : length (b ∷ d ∷ c) ≤ 1 = leb-true (length (b ∷ d ∷ c)) 1 (and_right (leb 1 (length (b ∷ d ∷ c))) _ s) in
    absurd (omega arith)

-- a line of those that keep 14 fits
pub line-fits-at : (p : Profile) (st : State) (k : ℕ) (fs : List Field) → rules_from p st k fs ≡ [] → (j : ℕ) → j < length fs → fits_label (label_at_line fs j) (content_at_line fs j) ≡ true
unfolding rules_from fits
line-fits-at p st k [] h j l = absurd (omega arith)
line-fits-at p st k (f ∷ fs) h zero l = line-fits (role_in p st f) p st k f (append-none (line_rules (role_in p st f) p st k f) _ h).0
line-fits-at p st k (f ∷ fs) h (suc j) l =
    line-fits-at p (next (role_in p st f) st k f.label) (k + 1) fs (append-none (line_rules (role_in p st f) p st k f) _ h).1 j (omega arith)

-- of lines that keep 11 to 14 the first byte of the 9206 line decides
pub seven-digit : (p : Profile) (fs : List Field) → rules_from p first 0 fs ≡ [] → (k : ℕ) → k < length fs → label_at_line fs k ≡ 9206
    → seven_bit fs ≡ eqb (get_or (content_at_line fs k) 0 0) (digit_zero + 1)
seven-digit p fs h k l e =
    seven-once p fs h k l e
    ∙ charset-digit (content_at_line fs k) (digit_zero + 1) (subst (λ (m : ℕ). fits_label m (content_at_line fs k) ≡ true) e (line-fits-at p first 0 fs h k l))

-- ---- a set with seven bits has seen 9206 at set level

says-9206 : (f : Field) → says_seven_bit f ≡ true → f.label ≡ 9206
unfolding says_seven_bit
says-9206 f e = eqb-true f.label 9206 (and_left (eqb f.label 9206) _ e)

top-after : (t : SetType) (st : State) (k : ℕ) (ls : List ℕ) → elem 9206 st.top ≡ true → elem 9206 (after (table t) st k ls).top ≡ true
unfolding after
top-after t st k [] e = e
top-after t st k (l ∷ ls) e =
    let o : Role = role (find (table t) l) st.header l in
    top-after t (next o st k l) (k + 1) ls (top-keep o st k l 9206 e)

pub seen-9206 : (t : SetType) (st : State) (k : ℕ) (fs : List Field) → seven_bit fs ≡ true → elem 9206 (after (table t) st k (labels fs)).top ≡ true
unfolding seven_bit after
seen-9206 t st k [] e = absurd (true≢false (sym e))
seen-9206 t st k (f ∷ fs) e = go (says_seven_bit f) refl e (seen-9206 t (next (role (find (table t) f.label) st.header f.label) st k f.label) (k + 1) fs)
  where
    o : Role
    o = role (find (table t) f.label) st.header f.label

    go : (b : Bool) → says_seven_bit f ≡ b → b || seven_bit fs ≡ true → (seven_bit fs ≡ true → elem 9206 (after (table t) (next o st k f.label) (k + 1) (labels fs)).top ≡ true)
        → elem 9206 (after (table t) (next o st k f.label) (k + 1) (labels fs)).top ≡ true
    go true q h later =
        let s = single-9206 t in
        let l : f.label ≡ 9206 = says-9206 f q in
        let r = role-at-set-level (find (table t) f.label) s.known st.header f.label (ap (find (table t)) l ∙ s.is) s.top-level in
        top-after t (next o st k f.label) (k + 1) (labels fs) (top-has o s.known st k 9206 f.label r s.named-so)
    go false q h later = later h
