-- "the 3000 content": an accepted set has a line with label 3000, and what is found for it is the first such line.
use mathlib.Core.Path.{◌≡◌, refl, sym, ap, ◌∙◌}
use mathlib.Core.Bool.{Bool, true, false, cond, not, ◌&&◌, ◌||◌, true≢false}
use mathlib.Core.List.{List, [], ◌∷◌}
use mathlib.Core.Logic.{◌⊎◌, inl, inr}
use mathlib.Core.Option.{Option, none, some}
use Prim.Native.Nat.{ℕ, suc, ◌+◌, ◌%◌, ◌<◌}
use native.Mathlib.Omega.{arith}
use lib.Dec.{eqb}
use lib.ListN.{length}
use borrow.Author.Tests.{eqb-true, eq-eqb}
use Rattle.meaning.specs.declared.Row.{Row}
use Rattle.meaning.specs.declared.SetType.{SetType}
use Rattle.meaning.specs.declared.SetType.TheVariants.{T6300, T6301, T6302, T6310, T6311}
use Rattle.meaning.specs.Field.{Field, labels, label_at_line, elem}
use Rattle.meaning.specs.Refusals.{at_line, missing}
use Rattle.meaning.specs.Tables.{set_level, is_pair_label, row_label, find_in, find, table}
use Rattle.meaning.specs.Groups.{State, first, Role, role, role_of, belongs, next, after}
use Rattle.meaning.specs.Missing.{needed, missing_label, rows_under, ascending, lacking_of, lacking, among, missing_faults}
use Rattle.meaning.specs.Rules.{profile, is_known, table_of, set_faults}
use Rattle.meaning.specs.Computes.{computes}
use Rattle.meaning.proofs.Bools.{or_right}
use Rattle.meaning.proofs.FaultLaws.{append-none, ask-none}
use Rattle.meaning.proofs.RowLaws.{all_rows, found}
use Rattle.meaning.proofs.RuleLaws.{Ruled, ruled, begins-of}
use Rattle.meaning_day.specs.Days.{patient_label, lines_before}
use Rattle.meaning.specs.Results.{Known}
use Rattle.std.specs.Prelude.{None, Some}

-- ---- what is required is there

-- one of the rows has label l and is required
abbrev requires : ℕ → List Row → Bool
requires l [] = false
requires l (r ∷ rs) = (r.required && eqb r.label l) || requires l rs

-- if none of the rows that are needed is missing, a required label is there
required-there : (rs : List Row) (h k l : ℕ) (has : ℕ → Bool) → lacking_of rs h k has ≡ [] → requires l rs ≡ true → has l ≡ true
unfolding lacking_of needed
required-there [] h k l has e q = absurd (true≢false (sym q))
required-there (r ∷ rs) h k l has e q =
    let a = ask-none (not (needed r has && not (has r.label))) (at_line missing k (missing_label h r.label)) (lacking_of rs h k has) e in
    go a.0 (λ z. required-there rs h k l has a.1 z) r.required (eqb r.label l) refl refl
  where
    there : (b : Bool) → not (not b) ≡ true → b ≡ true
    there true z = refl
    there false z = z

    go : not (needed r has && not (has r.label)) ≡ true → (requires l rs ≡ true → has l ≡ true) → (b c : Bool) → r.required ≡ b → eqb r.label l ≡ c → has l ≡ true
    go a ih true true x y =
        let n : not (not (has r.label)) ≡ true = rw x at a in
        ap has (sym (eqb-true r.label l y)) ∙ there (has r.label) n
    go a ih true false x y = ih (rw (x, y) at q)
    go a ih false c x y = ih (rw x at q)

-- "Required at set level: .. 3000 in all"
in_all : (t : SetType) → requires patient_label (ascending (rows_under (table t) set_level)) ≡ true
unfolding computes
in_all T6300 = refl
in_all T6301 = refl
in_all T6302 = refl
in_all T6310 = refl
in_all T6311 = refl

-- ---- and so stands on a line

-- the row of a label has label 3000 only if the label is 3000
own_row : (l : ℕ) → row_label l ≡ patient_label → l ≡ patient_label
unfolding row_label
own_row l e = go (is_pair_label l) e
  where
    go : (b : Bool) → cond b (6330 + l % 2) l ≡ patient_label → l ≡ patient_label
    go true q = absurd (omega arith)
    go false q = q

every-row : (rs : List Row) → all_rows (λ r. true) rs ≡ true
every-row [] = refl
every-row (r ∷ rs) = every-row rs

-- what stands at set level after a line with label l stood there before, or it is l
next-top : (rs : List Row) (st : State) (k l : ℕ) → elem patient_label (next (role (find rs l) st.header l) st k l).top ≡ true
    → (elem patient_label st.top ≡ true) ⊎ (l ≡ patient_label)
unfolding find role role_of next elem
next-top rs st k l e = by (find_in rs (row_label l)) refl e
  where
    at_top : (r : Row) → find_in rs (row_label l) ≡ some r → elem patient_label (r.label ∷ st.top) ≡ true → (elem patient_label st.top ≡ true) ⊎ (l ≡ patient_label)
    at_top r q h = go (eqb patient_label r.label) refl h
      where
        go : (b : Bool) → eqb patient_label r.label ≡ b → b || elem patient_label st.top ≡ true → (elem patient_label st.top ≡ true) ⊎ (l ≡ patient_label)
        go true y z = inr (own_row l (sym (found (λ r. true) rs (row_label l) r q (every-row rs)).1 ∙ sym (eqb-true patient_label r.label y)))
        go false y z = inl z

    by_row : (r : Row) → find_in rs (row_label l) ≡ some r → (b c : Bool)
        → elem patient_label (next (cond b (Role.at_set_level r) (cond c (Role.member r) Role.strayed)) st k l).top ≡ true
        → (elem patient_label st.top ≡ true) ⊎ (l ≡ patient_label)
    by_row r q true c h = at_top r q h
    by_row r q false true h = inl h
    by_row r q false false h = inl h

    by : (o : Option Row) → find_in rs (row_label l) ≡ o → elem patient_label (next (role o st.header l) st k l).top ≡ true
        → (elem patient_label st.top ≡ true) ⊎ (l ≡ patient_label)
    by none q h = inl h
    by (some r) q h = by_row r q (eqb r.under set_level) (belongs r st.header l) h

after-top : (rs : List Row) (st : State) (k : ℕ) (ls : List ℕ) → elem patient_label (after rs st k ls).top ≡ true
    → (elem patient_label st.top ≡ true) ⊎ (elem patient_label ls ≡ true)
unfolding after elem
after-top rs st k [] e = inl e
after-top rs st k (l ∷ ls) e = go (after-top rs (next (role (find rs l) st.header l) st k l) (k + 1) ls e)
  where
    this : (elem patient_label st.top ≡ true) ⊎ (l ≡ patient_label) → (elem patient_label st.top ≡ true) ⊎ (eqb patient_label l || elem patient_label ls ≡ true)
    this (inl q) = inl q
    this (inr q) = inr (rw (eq-eqb patient_label l (sym q)))

    go : (elem patient_label (next (role (find rs l) st.header l) st k l).top ≡ true) ⊎ (elem patient_label ls ≡ true)
        → (elem patient_label st.top ≡ true) ⊎ (eqb patient_label l || elem patient_label ls ≡ true)
    go (inl q) = this (next-top rs st k l q)
    go (inr q) = inr (or_right (eqb patient_label l) q)

-- the first line with a label that some line has
line-there : (l : ℕ) (fs : List Field) → elem l (labels fs) ≡ true → (lines_before l fs < length fs) × (label_at_line fs (lines_before l fs) ≡ l)
unfolding lines_before elem
line-there l [] e = absurd (true≢false (sym e))
line-there l (f ∷ fs) e = go (line-there l fs) (eqb f.label l) refl
  where
    go : (elem l (labels fs) ≡ true → (lines_before l fs < length fs) × (label_at_line fs (lines_before l fs) ≡ l)) → (b : Bool) → eqb f.label l ≡ b
        → (cond b 0 (suc (lines_before l fs)) < suc (length fs)) × (label_at_line (f ∷ fs) (cond b 0 (suc (lines_before l fs))) ≡ l)
    go ih true q = (omega arith, eqb-true f.label l q)
    go ih false q =
        let other : eqb l f.label ≡ false = flip (eqb l f.label) refl in
        let r = ih (rw other at e) in
        (omega (arith, r.0), r.1)
      where
        flip : (b : Bool) → eqb l f.label ≡ b → b ≡ false
        flip true x = sym (eq-eqb f.label l (sym (eqb-true l f.label x))) ∙ q
        flip false x = refl

-- ---- an accepted set

-- A set that breaks no rule has a line with label 3000, and this many lines stand before the first one.
pub patient-there : (fs : List Field) → set_faults fs ≡ []
    → (lines_before patient_label fs < length fs) × (label_at_line fs (lines_before patient_label fs) ≡ patient_label)
unfolding missing_faults lacking elem
patient-there fs e = line-there patient_label fs (go (profile fs).set_type (begins-of fs r.begins).type-known r.none-missing)
  where
    r : Ruled fs
    r = (ruled fs e).0

    by-top : (rs : List Row) → (elem patient_label first.top ≡ true) ⊎ (elem patient_label (labels fs) ≡ true) → elem patient_label (labels fs) ≡ true
    by-top rs (inl q) = absurd (true≢false (sym q))
    by-top rs (inr q) = q

    go : (t : Known) → is_known t ≡ true → missing_faults (table_of t) (labels fs) ≡ [] → elem patient_label (labels fs) ≡ true
    go None k m = absurd (true≢false (sym k))
    go (Some t) k m =
        let rs : List Row = table t in
        let top = among (after rs first 0 (labels fs)).top in
        let none-lacking = append-none (lacking_of (ascending (rows_under rs set_level)) set_level 0 top) _ m in
        by-top rs (after-top rs first 0 (labels fs) (required-there (ascending (rows_under rs set_level)) set_level 0 patient_label top none-lacking.0 (in_all t)))
