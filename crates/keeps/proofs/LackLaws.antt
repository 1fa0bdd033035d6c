-- 16 over all lines is what the set, its groups and its names must have: both ways, by the state's description (StateLaws).
use mathlib.Core.Path.{◌≡◌, refl, sym, ap, ◌∙◌, subst}
use mathlib.Core.Bool.{Bool, true, false, cond, not, ◌&&◌, ◌||◌, true≢false}
use mathlib.Core.List.{List, [], ◌∷◌, ◌++◌}
use mathlib.Core.Logic.{◌⊎◌, inl, inr}
use Prim.Native.Nat.{ℕ, zero, suc, ◌+◌, ◌-◌, ◌≤◌, ◌<◌}
use native.Mathlib.Omega.{arith}
use native.Mathlib.Numerals.{add-one}
use lib.Dec.{leb, eqb}
use lib.ListN.{length, drop}
use borrow.Author.Tests.{eqb-true, eq-eqb, ne_eqb}
use Rattle.meaning.specs.declared.Row.{Row}
use Rattle.meaning.specs.declared.SetType.{SetType}
use Rattle.meaning.specs.declared.SetType.TheVariants.{T6310}
use Rattle.meaning.specs.Field.{Field, labels, label_at_line, elem}
use Rattle.meaning.specs.Refusals.{Fault, at_line, missing}
use Rattle.meaning.specs.Tables.{set_level, single, M, K, row, row_label, rows6310, table, find_in, find}
use Rattle.meaning.specs.Groups.{State, first, no_header, after, label_faults, stays}
use Rattle.meaning.specs.Missing.{on_condition, needed, rows_under, insert, ascending, missing_label, lacking_of, lacking, among, open_lacking, groups_lacking}
use Rattle.meaning.proofs.Bools.{or_right, Every}
use Rattle.meaning.proofs.FaultLaws.{append-none, none_both, ask-none}
use Rattle.keeps.specs.Keeps.{HasRow, AtSetLevel, Required, MemberOf, IsName, IsOdd, InGroup, GroupHas, SetComplete, KeepsRules}
use Rattle.keeps.proofs.TableFacts.{or_cases, le-cases, lt-or-le, no-absurd, label_of, name_of, name-row-label, conditional, Regular}
use Rattle.keeps.proofs.TableFacts.{row-regular, row-label, one-row, no-row-0, only-6310, not-0, not-6330, not-name-row, not-odd-row}
use Rattle.keeps.proofs.TableFacts.{odd-row-odd, every-row, row-every}
use Rattle.keeps.proofs.StateLaws.{role_behind, state_at, OpenAt, Opened, open_at, at-start, behind-odd, Stands, at-set-level, in-open}
use Rattle.keeps.proofs.StateLaws.{behind-name, role-top, role-open, role-odd, open-next-top, open-next-member}
use Rattle.keeps.proofs.LabelLaws.{alone, member-not-top, member-under, odd-not-top, between-group, all-stand, all-behind, table_kept, behind-kept, stand-kept}

-- ---- no lack among some rows is that each row that is needed is there

abbrev pub Met : (ℕ → Bool) → Row → Type 0
Met has r = needed r has ≡ true → has r.label ≡ true

met : (a b : Bool) → not (a && not b) ≡ true → a ≡ true → b ≡ true
met true true e p = refl
met true false e p = e
met false b e p = absurd (true≢false (sym p))

unmet : (a b : Bool) → (a ≡ true → b ≡ true) → not (a && not b) ≡ true
unmet true true f = refl
unmet true false f = f refl
unmet false b f = refl

none-lack : (rs : List Row) (h k : ℕ) (has : ℕ → Bool) → lacking_of rs h k has ≡ [] → Every (Met has) rs
unfolding lacking_of
none-lack [] h k has e = tt
none-lack (r ∷ rs) h k has e =
    let x = ask-none (not (needed r has && not (has r.label))) (at_line missing k (missing_label h r.label)) (lacking_of rs h k has) e in
    (met (needed r has) (has r.label) x.0, none-lack rs h k has x.1)

lack-none : (rs : List Row) (h k : ℕ) (has : ℕ → Bool) → Every (Met has) rs → lacking_of rs h k has ≡ []
unfolding lacking_of
lack-none [] h k has e = refl
lack-none (r ∷ rs) h k has e = rw (unmet (needed r has) (has r.label) e.0) (lack-none rs h k has e.1)

-- ---- the order of the rows does not matter

module _ (P : Row → Type 0) where
  pub into : (r : Row) (xs : List Row) → P r → Every P xs → Every P (insert r xs)
  unfolding insert
  into r [] p h = (p, tt)
  into r (x ∷ xs) p h = go (leb r.label x.label) (into r xs p h.1)
    where
      go : (b : Bool) → Every P (insert r xs) → Every P (cond b (r ∷ x ∷ xs) (x ∷ insert r xs))
      go true i = (p, h)
      go false i = (h.0, i)

  out_of : (r : Row) (xs : List Row) → Every P (insert r xs) → P r × Every P xs
  unfolding insert
  out_of r [] h = (h.0, tt)
  out_of r (x ∷ xs) h = go (out_of r xs) (leb r.label x.label) h
    where
      go : (Every P (insert r xs) → P r × Every P xs) → (b : Bool) → Every P (cond b (r ∷ x ∷ xs) (x ∷ insert r xs)) → P r × Every P (x ∷ xs)
      go ih true q = (q.0, q.1)
      go ih false q = let y = ih q.1 in (y.0, (q.0, y.1))

  pub sorted : (xs : List Row) → Every P xs → Every P (ascending xs)
  unfolding ascending
  sorted [] h = tt
  sorted (x ∷ xs) h = into x (ascending xs) h.0 (sorted xs h.1)

  pub unsorted : (xs : List Row) → Every P (ascending xs) → Every P xs
  unfolding ascending
  unsorted [] h = tt
  unsorted (x ∷ xs) h = let y = out_of x (ascending xs) h in (y.0, unsorted xs y.1)

  pub chosen : (xs : List Row) (h : ℕ) → Every (λ r. r.under ≡ row_label h → P r) xs → Every P (rows_under xs h)
  unfolding rows_under
  chosen [] h e = tt
  chosen (x ∷ xs) h e = go (eqb x.under (row_label h)) refl (chosen xs h e.1)
    where
      go : (b : Bool) → eqb x.under (row_label h) ≡ b → Every P (rows_under xs h) → Every P (cond b (x ∷ rows_under xs h) (rows_under xs h))
      go true p i = (e.0 (eqb-true _ _ p), i)
      go false p i = i

  pub unchosen : (xs : List Row) (h : ℕ) → Every P (rows_under xs h) → Every (λ r. r.under ≡ row_label h → P r) xs
  unfolding rows_under
  unchosen [] h e = tt
  unchosen (x ∷ xs) h e = go (unchosen xs h) (eqb x.under (row_label h)) refl e
    where
      go : (Every P (rows_under xs h) → Every (λ r. r.under ≡ row_label h → P r) xs) → (b : Bool) → eqb x.under (row_label h) ≡ b
          → Every P (cond b (x ∷ rows_under xs h) (rows_under xs h)) → Every (λ r. r.under ≡ row_label h → P r) (x ∷ xs)
      go ih true p q = (λ y. q.0, ih q.1)
      go ih false p q = (λ y. no-absurd (eq-eqb _ _ y) p, ih q)

-- ---- over a table

module _ (t : SetType) (h k : ℕ) (has : ℕ → Bool) where
  pub rows-met : lacking (table t) h k has ≡ [] → (l : ℕ) (r : Row) → HasRow t l r → r.under ≡ row_label h → Met has r
  unfolding lacking
  rows-met e l r x =
      row-every (λ q. q.under ≡ row_label h → Met has q) t l r x
      (unchosen (Met has) (table t) h (unsorted (Met has) (rows_under (table t) h) (none-lack (ascending (rows_under (table t) h)) h k has e)))

  pub met-rows : ((r : Row) → HasRow t r.label r → r.under ≡ row_label h → Met has r) → lacking (table t) h k has ≡ []
  unfolding lacking
  met-rows f =
      lack-none (ascending (rows_under (table t) h)) h k has
      (sorted (Met has) (rows_under (table t) h) (chosen (Met has) (table t) h (every-row (λ q. q.under ≡ row_label h → Met has q) t f)))

-- ---- when a row is needed

or_left : (a b : Bool) → a ≡ true → a || b ≡ true
or_left a b e = rw e refl

abbrev pub HasValue : (ℕ → Bool) → Type 0
HasValue has = (has 8420 ≡ true) ⊎ ((has 8461 ≡ true) ⊎ (has 8462 ≡ true))

pub needed-required : (r : Row) (has : ℕ → Bool) → r.required ≡ true → needed r has ≡ true
unfolding needed
needed-required r has e = or_left r.required _ e

pub needed-8421 : (r : Row) (has : ℕ → Bool) → r.label ≡ 8421 → HasValue has → needed r has ≡ true
unfolding needed on_condition
needed-8421 r has e v = or_right r.required (rw (eq-eqb r.label 8421 e) (go v))
  where
    go : HasValue has → has 8420 || (has 8461 || has 8462) ≡ true
    go (inl x) = or_left (has 8420) _ x
    go (inr (inl x)) = or_right (has 8420) (or_left (has 8461) _ x)
    go (inr (inr x)) = or_right (has 8420) (or_right (has 8461) x)

pub needed-8437 : (r : Row) (has : ℕ → Bool) → r.label ≡ 8437 → has 8438 ≡ true → needed r has ≡ true
unfolding needed on_condition
needed-8437 r has e v = or_right r.required (rw (ne_eqb r.label 8421 (λ q. omega arith), eq-eqb r.label 8437 e) v)

-- why a row is needed
pub data Why (r : Row) (has : ℕ → Bool) : Type 0 where
  by_row : r.required ≡ true → Why r has
  by_value : r.label ≡ 8421 → HasValue has → Why r has
  by-8438 : r.label ≡ 8437 → has 8438 ≡ true → Why r has

pub why : (r : Row) (has : ℕ → Bool) → needed r has ≡ true → Why r has
unfolding needed on_condition
why r has e = go (or_cases r.required (on_condition r.label has) e)
  where
    value : has 8420 || (has 8461 || has 8462) ≡ true → HasValue has
    value q = first_of (or_cases (has 8420) _ q)
      where
        later_of : (has 8461 ≡ true) ⊎ (has 8462 ≡ true) → HasValue has
        later_of (inl x) = inr (inl x)
        later_of (inr x) = inr (inr x)

        first_of : (has 8420 ≡ true) ⊎ (has 8461 || has 8462 ≡ true) → HasValue has
        first_of (inl x) = inl x
        first_of (inr x) = later_of (or_cases (has 8461) _ x)

    which : (a b : Bool) → eqb r.label 8421 ≡ a → eqb r.label 8437 ≡ b → cond a (has 8420 || (has 8461 || has 8462)) (cond b (has 8438) false) ≡ true → Why r has
    which true b p q x = by_value (eqb-true _ _ p) (value x)
    which false true p q x = by-8438 (eqb-true _ _ q) x
    which false false p q x = absurd (true≢false (sym x))

    go : (r.required ≡ true) ⊎ (on_condition r.label has ≡ true) → Why r has
    go (inl x) = by_row x
    go (inr x) = which (eqb r.label 8421) (eqb r.label 8437) refl refl x

-- ---- line by line

drop-labels : (fs : List Field) (i : ℕ) → i < length fs → drop i (labels fs) ≡ label_at_line fs i ∷ drop (suc i) (labels fs)
drop-labels [] i l = absurd (omega arith)
drop-labels (f ∷ fs) zero l = refl
drop-labels (f ∷ fs) (suc i) l = drop-labels fs i (omega arith)

drop_all : (fs : List Field) (i : ℕ) → length fs ≤ i → drop i (labels fs) ≡ []
drop_all [] zero l = refl
drop_all [] (suc i) l = refl
drop_all (f ∷ fs) zero l = absurd (omega arith)
drop_all (f ∷ fs) (suc i) l = drop_all fs i (omega arith)

-- after the last line stands label 0
pub label-behind : (fs : List Field) (i : ℕ) → length fs ≤ i → label_at_line fs i ≡ 0
label-behind [] zero l = refl
label-behind [] (suc i) l = refl
label-behind (f ∷ fs) zero l = absurd (omega arith)
label-behind (f ∷ fs) (suc i) l = label-behind fs i (omega arith)

-- the labels that are needed on a condition
pub conditional-label : (l : ℕ) → (l ≡ 8421) ⊎ (l ≡ 8437) → elem l conditional ≡ true
unfolding elem
conditional-label l (inl e) = rw e refl
conditional-label l (inr e) = rw e refl

-- what is left from i to n
order-of : (i n : ℕ) → i ≤ n → (d : ℕ) × (i + d ≡ n)
order-of i n l = (n - i, omega arith)

module _ (t : SetType) (fs : List Field) where
  -- what line k finds lacking: of the open group, if the line does not stay in it
  abbrev pub lack_at : ℕ → List Fault
  lack_at k = cond (stays (role_behind t fs (state_at t fs k) k)) [] (open_lacking (table t) (state_at t fs k))

  pub step-lack : (i : ℕ) → i < length fs
      → groups_lacking (table t) (state_at t fs i) i (drop i (labels fs)) ≡ lack_at i ++ groups_lacking (table t) (state_at t fs (suc i)) (suc i) (drop (suc i) (labels fs))
  unfolding groups_lacking state_at
  step-lack i l = rw (drop-labels fs i l, add-one i) refl

  pub end-lack : (i : ℕ) → length fs ≤ i → groups_lacking (table t) (state_at t fs i) i (drop i (labels fs)) ≡ open_lacking (table t) (state_at t fs i)
  unfolding groups_lacking
  end-lack i l = rw (drop_all fs i l) refl

  pub record NoLack : Type 0 where
    pub at_each : (k : ℕ) → k < length fs → lack_at k ≡ []
    pub at-the-end : open_lacking (table t) (state_at t fs (length fs)) ≡ []

  no-lack-from : (n i : ℕ) → i + n ≡ length fs → groups_lacking (table t) (state_at t fs i) i (drop i (labels fs)) ≡ []
      → ((k : ℕ) → i ≤ k → k < length fs → lack_at k ≡ []) × (open_lacking (table t) (state_at t fs (length fs)) ≡ [])
  no-lack-from zero i e h =
      let q : i ≡ length fs = omega arith in
      (λ k a b. absurd (omega arith), subst (λ (x : ℕ). open_lacking (table t) (state_at t fs x) ≡ []) q (sym (end-lack i (omega arith)) ∙ h))
  no-lack-from (suc n) i e h =
      let x = append-none (lack_at i) (groups_lacking (table t) (state_at t fs (suc i)) (suc i) (drop (suc i) (labels fs))) (sym (step-lack i (omega arith)) ∙ h) in
      let y = no-lack-from n (suc i) (omega arith) x.1 in
      (λ k a b. go x.0 y.0 k b (le-cases i k a), y.1)
    where
      go : lack_at i ≡ [] → ((k : ℕ) → suc i ≤ k → k < length fs → lack_at k ≡ []) → (k : ℕ) → k < length fs → (i < k) ⊎ (i ≡ k) → lack_at k ≡ []
      go p q k b (inl r) = q k r b
      go p q k b (inr r) = subst (λ (z : ℕ). lack_at z ≡ []) r p

  pub no-lack : groups_lacking (table t) first 0 (labels fs) ≡ [] → NoLack
  unfolding state_at
  no-lack h = let x = no-lack-from (length fs) 0 (omega arith) h in record { at_each = λ k b. x.0 k (omega arith) b; at-the-end = x.1 }

  lack-none-from : (n i : ℕ) → i + n ≡ length fs → NoLack → groups_lacking (table t) (state_at t fs i) i (drop i (labels fs)) ≡ []
  lack-none-from zero i e h =
      let q : length fs ≡ i = omega arith in
      end-lack i (omega arith) ∙ subst (λ (x : ℕ). open_lacking (table t) (state_at t fs x) ≡ []) q h.at-the-end
  lack-none-from (suc n) i e h = step-lack i (omega arith) ∙ none_both (lack_at i) _ (h.at_each i (omega arith)) (lack-none-from n (suc i) (omega arith) h)

  pub lack-none-all : NoLack → groups_lacking (table t) first 0 (labels fs) ≡ []
  unfolding state_at
  lack-none-all h = lack-none-from (length fs) 0 (omega arith) h

  after-step : (i : ℕ) → i < length fs
      → after (table t) (state_at t fs i) i (drop i (labels fs)) ≡ after (table t) (state_at t fs (suc i)) (suc i) (drop (suc i) (labels fs))
  unfolding after state_at
  after-step i l = rw (drop-labels fs i l) (ap (λ (m : ℕ). after (table t) (state_at t fs (suc i)) m (drop (suc i) (labels fs))) (add-one i))

  after-from : (n i : ℕ) → i + n ≡ length fs → after (table t) (state_at t fs i) i (drop i (labels fs)) ≡ state_at t fs (length fs)
  unfolding after
  after-from zero i e =
      let q : i ≡ length fs = omega arith in
      rw (drop_all fs i (omega arith)) (ap (state_at t fs) q)
  after-from (suc n) i e = after-step i (omega arith) ∙ after-from n (suc i) (omega arith)

  pub after-all : after (table t) first 0 (labels fs) ≡ state_at t fs (length fs)
  unfolding state_at
  after-all = after-from (length fs) 0 (omega arith)

  -- ---- what the open group has, when nothing is lacking in it

  -- a header that is open is not 0
  pub header-there : (h k : ℕ) (st : State) → OpenAt t fs h k st → eqb st.header 0 ≡ false
  header-there h k st o = ne_eqb st.header 0 (λ q. no-row-0 t (label_at_line fs h) o.top-level.0 o.top-level.1 (sym o.header_is ∙ q))

  pub open-met : (h k : ℕ) (st : State) → OpenAt t fs h k st → open_lacking (table t) st ≡ [] → (l : ℕ) (r : Row) → HasRow t l r → r.under ≡ row_label (label_at_line fs h)
      → Met (among st.members) r
  unfolding open_lacking
  open-met h k st o e l r x u =
      rows-met t st.header st.line (among st.members) (rw (header-there h k st o) at e) l r x (u ∙ ap row_label (sym o.header_is))

  pub met-open : (h k : ℕ) (st : State) → OpenAt t fs h k st → ((r : Row) → HasRow t r.label r → r.under ≡ row_label (label_at_line fs h) → Met (among st.members) r)
      → open_lacking (table t) st ≡ []
  unfolding open_lacking
  met-open h k st o f =
      rw (header-there h k st o) (met-rows t st.header st.line (among st.members) (λ r x u. f r x (u ∙ ap row_label o.header_is)))

  pub header-row-label : (l : ℕ) → (l ≡ 8410) ⊎ (l ≡ 6302) → row_label l ≡ l
  unfolding row_label
  header-row-label l (inl e) = rw e refl
  header-row-label l (inr e) = rw e refl

  -- ---- from no lack to the rules

  -- no line up to line `to`, which is at set level or after the last, finds anything lacking
  pub record ClearTo (to : ℕ) : Type 0 where
    pub within : to ≤ length fs
    pub ended : (to ≡ length fs) ⊎ AtSetLevel t (label_at_line fs to)
    pub at_each : (k : ℕ) → k < length fs → k ≤ to → lack_at k ≡ []
    pub at_last : open_lacking (table t) (state_at t fs to) ≡ []

  pub clear-all : NoLack → ClearTo (length fs)
  clear-all n = record { within = omega arith; ended = inl refl; at_each = λ k l p. n.at_each k l; at_last = n.at-the-end }

  module _ (fine : (k : ℕ) → k < length fs → label_faults (role_behind t fs (state_at t fs k) k) (state_at t fs k) k (label_at_line fs k) ≡ []) where
    pub set-has : lacking (table t) set_level 0 (among (state_at t fs (length fs)).top) ≡ [] → SetComplete t fs
    unfolding row_label
    set-has e l a q =
        let r = a.0 in
        let g : Regular r = row-regular t l r a.1 in
        let req : r.required ≡ true = ap (λ (y : Row). y.required) (one-row t l r q.0 a.1 q.1) ∙ q.2 in
        let has : elem r.label (state_at t fs (length fs)).top ≡ true =
        rows-met t set_level 0 (among (state_at t fs (length fs)).top) e l r a.1 a.2 (needed-required r _ req) in
        let s = (all-behind t fs fine (length fs) (omega arith)).top_seen.seen r.label has in
        (s.0, s.2.0, alone t l r s.1 (label_at_line fs s.0) a.1 s.3 s.4 (λ x. no-absurd req (g.name-optional x)) (λ x. omega (arith, g.under-name x, a.2)))

    -- nothing is lacking up to line `to`, before which a group ends
    module _ (to : ℕ) (none : ClearTo to) where
      -- where the group of line h ends: there nothing is lacking in it
      record GroupEnd (h : ℕ) : Type 0 where
        last : ℕ
        last_line : last ≤ length fs
        still_open : OpenAt t fs h last (state_at t fs last)
        no_member : (last ≡ length fs) ⊎ AtSetLevel t (label_at_line fs last)
        nothing : open_lacking (table t) (state_at t fs last) ≡ []

      not-odd : (h l : ℕ) → (h ≡ 8410) ⊎ (h ≡ 6302) → IsOdd l → h + 1 ≡ l → ⊥
      not-odd h l (inl p) o e = omega arith
      not-odd h l (inr p) o e = omega arith

      nothing-at : (k : ℕ) → k < length fs → k ≤ to → (r : Row) → HasRow t (label_at_line fs k) r → r.under ≡ set_level → open_lacking (table t) (state_at t fs k) ≡ []
      unfolding stays
      nothing-at k l p r h u = rw (role-top t fs k (state_at t fs k) r h u) at (none.at_each k l p)

      -- Line by line from k on, while they are members of the group: it ends at a line at set level, or at line `to`, and nothing is lacking there.
      walk : (n h k : ℕ) → k + n ≡ to → (label_at_line fs h ≡ 8410) ⊎ (label_at_line fs h ≡ 6302) → OpenAt t fs h k (state_at t fs k) → GroupEnd h
      unfolding state_at
      walk zero h k e g o =
          let q : to ≡ k = omega arith in
          record {
            last = k;
            last_line = omega (arith, none.within);
            still_open = o;
            no_member = subst (λ (x : ℕ). (x ≡ length fs) ⊎ AtSetLevel t (label_at_line fs x)) q none.ended;
            nothing = subst (λ (x : ℕ). open_lacking (table t) (state_at t fs x) ≡ []) q none.at_last;
          }
      walk (suc n) h k e g o = go (λ p. walk n h (suc k) (omega arith) g p) (all-stand t fs fine k inside)
        where
          inside : k < length fs
          inside = omega (arith, none.within)

          st : State
          st = state_at t fs k

          go : (OpenAt t fs h (suc k) (state_at t fs (suc k)) → GroupEnd h) → Stands t fs k st → GroupEnd h
          go ih (at-set-level r x u) = record {
            last = k;
            last_line = omega arith;
            still_open = o;
            no_member = inr (r, x, u);
            nothing = nothing-at k inside (omega arith) r x u;
          }
          go ih (in-open r x u p) = ih (open-next-member t fs k st r x u p h o)
          go ih (behind-name r x u p) = absurd (not-odd (label_at_line fs h) (label_at_line fs k) g (odd-row-odd t _ r x u) (omega (arith, o.header_is)))

      -- a header's line opens its group
      header-opens : (h : ℕ) (r : Row) → HasRow t (label_at_line fs h) r → r.under ≡ set_level → OpenAt t fs h (suc h) (state_at t fs (suc h))
      unfolding state_at
      header-opens h r x u = open-next-top t fs h (state_at t fs h) r x u

      header-top : (h : ℕ) → h < length fs → (label_at_line fs h ≡ 8410) ⊎ (label_at_line fs h ≡ 6302) → AtSetLevel t (label_at_line fs h)
      header-top h l g = (r.0, r.1, (row-regular t _ r.0 r.1).header-at-set-level (header-label g))
        where
          r : (q : Row) × HasRow t (label_at_line fs h) q
          r = table_kept t fs fine h l

          e : r.0.label ≡ label_at_line fs h
          e = row-label t _ r.0 r.1 ∙ header-row-label (label_at_line fs h) g

          header-label : (label_at_line fs h ≡ 8410) ⊎ (label_at_line fs h ≡ 6302) → (r.0.label ≡ 8410) ⊎ (r.0.label ≡ 6302)
          header-label (inl p) = inl (e ∙ p)
          header-label (inr p) = inr (e ∙ p)

      group-end : (h : ℕ) → h < to → (label_at_line fs h ≡ 8410) ⊎ (label_at_line fs h ≡ 6302) → GroupEnd h
      group-end h l g =
          let a = header-top h (omega (arith, none.within)) g in
          let d = order-of (suc h) to l in
          walk d.0 h (suc h) d.1 g (header-opens h a.0 a.1 a.2)

      -- every line of the group stands before its end
      before-end : (h k : ℕ) → InGroup t fs h k → (x : GroupEnd h) → k < x.last
      before-end h k g x = go (lt-or-le k x.last)
        where
          at-end : x.last ≤ k → (x.last ≡ length fs) ⊎ AtSetLevel t (label_at_line fs x.last) → ⊥
          at-end p (inl q) = omega (arith, g.a-line)
          at-end p (inr q) = member-not-top t _ _ (g.all-members x.last x.still_open.before p) q

          go : (k < x.last) ⊎ (x.last ≤ k) → k < x.last
          go (inl p) = p
          go (inr p) = absurd (at-end p x.no_member)

      -- what was seen in a group stands in it
      seen-there : (h l : ℕ) (x : GroupEnd h) → (l ≡ 6330 → ⊥) → (l ≡ 6331 → ⊥) → elem l (state_at t fs x.last).members ≡ true → GroupHas t fs h l
      seen-there h l x a b m =
          let s = x.still_open.members-seen.seen l m in (
            s.0,
            between-group t fs h s.0 x.last (state_at t fs x.last) x.last_line x.still_open s.2.0 s.2.1,
            label_of (label_at_line fs s.0) l (sym (row-label t _ s.1 s.3) ∙ s.4) a b,
          )

      -- ---- the rules

      end-met : (h l : ℕ) (r : Row) (x : GroupEnd h) → HasRow t l r → r.under ≡ row_label (label_at_line fs h) → Met (among (state_at t fs x.last).members) r
      end-met h l r x y u = open-met h x.last (state_at t fs x.last) x.still_open x.nothing l r y u

      pub groups-have : (h l : ℕ) → h < to → MemberOf t (label_at_line fs h) l → Required t l → GroupHas t fs h l
      groups-have h l p m q =
          let r = m.1 in
          let x = group-end h p m.0 in
          let u = member-under t _ _ m in
          let g : Regular r = row-regular t l r m.2 in
          let req : r.required ≡ true = ap (λ (y : Row). y.required) (one-row t l r q.0 m.2 q.1) ∙ q.2 in
          let has : elem r.label (state_at t fs x.last).members ≡ true =
          end-met h l r x m.2 (m.3 ∙ sym (header-row-label _ m.0)) (needed-required r _ req) in
          let no_name : r.label ≡ 6330 → ⊥ = λ y. no-absurd (eq-eqb r.under 0 (g.name-at-set-level y)) (not-0 r.under u) in
          let no-odd : r.label ≡ 6331 → ⊥ = λ y. no-absurd (eq-eqb r.under 6330 (g.under-name y)) (not-6330 r.under u) in
          let s = seen-there h r.label x no_name no-odd has in
          (s.0, s.1, s.2 ∙ sym (label_of l r.label (sym (row-label t l r m.2)) no_name no-odd))

      -- a group that has a label on which another depends: it is one of 8410, in a 6310 set
      record Depends (h c : ℕ) : Type 0 where
        in-6310 : t ≡ T6310
        its-header : label_at_line fs h ≡ 8410
        its-end : GroupEnd h
        there : elem c (state_at t fs its-end.last).members ≡ true

      depends : (h c : ℕ) → h < to → elem c conditional ≡ true → row_label c ≡ c → GroupHas t fs h c → Depends h c
      depends h c l d e y =
          let k = y.0 in
          let m = y.1.all-members k y.1.behind (omega arith) in
          let r = m.1 in
          let x = group-end h l m.0 in
          let is : r.label ≡ c = row-label t _ r m.2 ∙ (ap row_label y.2 ∙ e) in
          let u : r.under ≡ 8410 = (row-regular t _ r m.2).conditional-member (subst (λ (z : ℕ). elem z conditional ≡ true) (sym is) d) in
          record {
            in-6310 = only-6310 t _ r m.2 (inl (λ q. omega arith));
            its-header = sym m.3 ∙ u;
            its-end = x;
            there = subst (λ (z : ℕ). elem z (state_at t fs x.last).members ≡ true) is
                (x.still_open.members-seen.sees k r (y.1.behind, before-end h k y.1 x) m.2);
          }

      abbrev row8421 : Row
      row8421 = row 8421 8410 single K

      abbrev row8437 : Row
      row8437 = row 8437 8410 single K

      has-8421 : t ≡ T6310 → HasRow t 8421 row8421
      unfolding find find_in row_label table rows6310
      has-8421 e = subst (λ (y : SetType). HasRow y 8421 row8421) (sym e) refl

      has-8437 : t ≡ T6310 → HasRow t 8437 row8437
      unfolding find find_in row_label table rows6310
      has-8437 e = subst (λ (y : SetType). HasRow y 8437 row8437) (sym e) refl

      depends-met : (h c l : ℕ) (r : Row) (x : Depends h c) → HasRow t l r → r.under ≡ 8410 → Met (among (state_at t fs x.its-end.last).members) r
      unfolding row_label
      depends-met h c l r x y u = end-met h l r x.its-end y (u ∙ ap row_label (sym x.its-header))

      unit-of : (h c : ℕ) (x : Depends h c) → HasValue (among (state_at t fs x.its-end.last).members) → GroupHas t fs h 8421
      unit-of h c x v =
          seen-there h 8421 x.its-end (λ q. omega arith) (λ q. omega arith)
          (depends-met h c 8421 row8421 x (has-8421 x.in-6310) refl (needed-8421 row8421 _ refl v))

      pub values-have-units : (h : ℕ) → h < to → GroupHas t fs h 8420 ⊎ (GroupHas t fs h 8461 ⊎ GroupHas t fs h 8462) → GroupHas t fs h 8421
      unfolding row_label elem
      values-have-units h l (inl g) = let x = depends h 8420 l refl refl g in unit-of h 8420 x (inl x.there)
      values-have-units h l (inr (inl g)) = let x = depends h 8461 l refl refl g in unit-of h 8461 x (inr (inl x.there))
      values-have-units h l (inr (inr g)) = let x = depends h 8462 l refl refl g in unit-of h 8462 x (inr (inr x.there))

      pub has-8437-with-8438 : (h : ℕ) → h < to → GroupHas t fs h 8438 → GroupHas t fs h 8437
      unfolding row_label elem
      has-8437-with-8438 h l g =
          let x = depends h 8438 l refl refl g in
          seen-there h 8437 x.its-end (λ q. omega arith) (λ q. omega arith)
          (depends-met h 8438 8437 row8437 x (has-8437 x.in-6310) refl (needed-8437 row8437 _ refl x.there))

      abbrev row6331 : Row
      row6331 = row 6331 6330 single M

      has-6331 : t ≡ T6310 → HasRow t 6331 row6331
      unfolding find find_in row_label table rows6310
      has-6331 e = subst (λ (y : SetType). HasRow y 6331 row6331) (sym e) refl

      -- a name after which nothing stands lacks its odd label
      name-lacks : (k : ℕ) → IsName (label_at_line fs k) → (r : Row) → HasRow t (label_at_line fs k) r → r.label ≡ 6330 → r.under ≡ set_level
          → open_lacking (table t) (state_at t fs (suc k)) ≡ [] → ⊥
      name-lacks k n r x e u q =
          let o = header-opens k r x u in
          let y : elem 6331 (state_at t fs (suc k)).members ≡ true =
          open-met k (suc k) (state_at t fs (suc k)) o q 6331 row6331 (has-6331 (only-6310 t _ r x (inr e)))
          (sym (name-row-label (label_at_line fs k) n)) (needed-required row6331 _ refl) in
          let s = o.members-seen.seen 6331 y in
          omega (arith, s.2.0, s.2.1)

      -- The line after a name may stand at set level, in a group, or after its name. At set level the name would lack its odd label, and a name opens no group.
      pub names-have-odds : (k : ℕ) → k < to → IsName (label_at_line fs k) → label_at_line fs (suc k) ≡ suc (label_at_line fs k)
      names-have-odds k l n = go (le-cases (suc k) to l)
        where
          x : (r : Row) × HasRow t (label_at_line fs k) r
          x = table_kept t fs fine k (omega (arith, none.within))

          r : Row
          r = x.0

          e : r.label ≡ 6330
          e = row-label t _ r x.1 ∙ name-row-label (label_at_line fs k) n

          u : r.under ≡ set_level
          u = (row-regular t _ r x.1).name-at-set-level e

          lacks : open_lacking (table t) (state_at t fs (suc k)) ≡ [] → ⊥
          lacks q = name-lacks k n r x.1 e u q

          o : OpenAt t fs k (suc k) (state_at t fs (suc k))
          o = header-opens k r x.1 u

          no-group : (h : ℕ) → (h ≡ 8410) ⊎ (h ≡ 6302) → h ≡ label_at_line fs k → ⊥
          no-group h (inl p) q = omega (arith, n.0, n.1)
          no-group h (inr p) q = omega (arith, n.0, n.1)

          follows : suc k < to → Stands t fs (suc k) (state_at t fs (suc k)) → label_at_line fs (suc k) ≡ suc (label_at_line fs k)
          follows p (at-set-level y z w) = absurd (lacks (nothing-at (suc k) (omega (arith, none.within)) (omega arith) y z w))
          follows p (in-open y z w v) = absurd (no-group y.under w (sym v ∙ o.header_is))
          follows p (behind-name y z w v) = omega (arith, o.header_is)

          go : (suc k < to) ⊎ (suc k ≡ to) → label_at_line fs (suc k) ≡ suc (label_at_line fs k)
          go (inl p) = follows p (all-stand t fs fine (suc k) (omega (arith, none.within)))
          go (inr p) = absurd (lacks (subst (λ (y : ℕ). open_lacking (table t) (state_at t fs y) ≡ []) (sym p) none.at_last))

  -- ---- where a group ends

  -- the lines of a group that ends before line k
  module _ (k : ℕ) (l : k ≤ length fs) (ended : (k ≡ length fs) ⊎ AtSetLevel t (label_at_line fs k)) (h : ℕ) (o : OpenAt t fs h k (state_at t fs k)) where
    abbrev pub members : List ℕ
    members = (state_at t fs k).members

    pub group-before : (j : ℕ) → InGroup t fs h j → j < k
    group-before j g = go (lt-or-le j k)
      where
        at-end : k ≤ j → (k ≡ length fs) ⊎ AtSetLevel t (label_at_line fs k) → ⊥
        at-end p (inl q) = omega (arith, g.a-line)
        at-end p (inr q) = member-not-top t _ _ (g.all-members k o.before p) q

        go : (j < k) ⊎ (k ≤ j) → j < k
        go (inl p) = p
        go (inr p) = absurd (at-end p ended)

    pub group-seen : (r : Row) → HasRow t r.label r → GroupHas t fs h r.label → elem r.label members ≡ true
    group-seen r x g = o.members-seen.sees g.0 r (g.1.behind, group-before g.0 g.1) (subst (λ (y : ℕ). HasRow t y r) (sym g.2) x)

    pub seen-group : (c : ℕ) → (c ≡ 6330 → ⊥) → (c ≡ 6331 → ⊥) → elem c members ≡ true → GroupHas t fs h c
    seen-group c a b m =
        let s = o.members-seen.seen c m in
        (s.0, between-group t fs h s.0 k (state_at t fs k) l o s.2.0 s.2.1, label_of (label_at_line fs s.0) c (sym (row-label t _ s.1 s.3) ∙ s.4) a b)

    pub value-group : HasValue (among members) → GroupHas t fs h 8420 ⊎ (GroupHas t fs h 8461 ⊎ GroupHas t fs h 8462)
    value-group (inl x) = inl (seen-group 8420 (λ q. omega arith) (λ q. omega arith) x)
    value-group (inr (inl x)) = inr (inl (seen-group 8461 (λ q. omega arith) (λ q. omega arith) x))
    value-group (inr (inr x)) = inr (inr (seen-group 8462 (λ q. omega arith) (λ q. omega arith) x))

    -- a name that is followed by its odd label is not open where a group ends
    pub name-open : IsName (label_at_line fs h) → label_at_line fs (suc h) ≡ suc (label_at_line fs h) → ⊥
    name-open n e = go (le-cases (suc h) k o.before)
      where
        no-group : (label_at_line fs h ≡ 8410) ⊎ (label_at_line fs h ≡ 6302) → ⊥
        no-group (inl p) = omega (arith, n.0, n.1)
        no-group (inr p) = omega (arith, n.0, n.1)

        at-end : suc h ≡ k → (k ≡ length fs) ⊎ AtSetLevel t (label_at_line fs k) → ⊥
        at-end p (inl q) = omega (arith, e, label-behind fs (suc h) (omega arith))
        at-end p (inr q) =
            let a = subst (λ (y : ℕ). AtSetLevel t (label_at_line fs y)) (sym p) q in
            odd-not-top t (label_at_line fs (suc h)) a.0 a.1 a.2 (omega (arith, e, n.0, n.1, n.2))

        go : (suc h < k) ⊎ (suc h ≡ k) → ⊥
        go (inl p) = no-group (o.members-all (suc h) (omega arith) p).0
        go (inr p) = at-end p ended

  -- ---- from the rules to no lack

  module _ (rules : KeepsRules t fs) where
    pub set-lacks-none : lacking (table t) set_level 0 (among (state_at t fs (length fs)).top) ≡ []
    unfolding row_label
    set-lacks-none = met-rows t set_level 0 (among (state_at t fs (length fs)).top) (λ r x u n. there r x u (why r _ n))
      where
        top : List ℕ
        top = (state_at t fs (length fs)).top

        seen : (r : Row) → HasRow t r.label r → r.under ≡ 0 → (k : ℕ) × (k < length fs) × (label_at_line fs k ≡ r.label) → elem r.label top ≡ true
        seen r x u k =
            (behind-kept t fs rules (length fs) (omega arith)).top_seen.sees k.0 r (k.1, u) (subst (λ (y : ℕ). HasRow t y r) (sym k.2) x)

        no-condition : (r : Row) → HasRow t r.label r → r.under ≡ 0 → elem r.label conditional ≡ true → ⊥
        no-condition r x u c = omega (arith, (row-regular t _ r x).conditional-member c)

        there : (r : Row) → HasRow t r.label r → r.under ≡ 0 → Why r (among top) → elem r.label top ≡ true
        there r x u (by_row q) = seen r x u (rules.set-complete r.label (r, x, u) (r, x, q))
        there r x u (by_value q v) = absurd (no-condition r x u (conditional-label r.label (inl q)))
        there r x u (by-8438 q v) = absurd (no-condition r x u (conditional-label r.label (inr q)))

    -- a group that ends before line k has all that it must
    module _ (k : ℕ) (l : k ≤ length fs) (ended : (k ≡ length fs) ⊎ AtSetLevel t (label_at_line fs k)) (h : ℕ) (o : OpenAt t fs h k (state_at t fs k)) where
      -- a row under 8410 or 6302
      group-met : (r : Row) → HasRow t r.label r → (r.under ≡ 8410) ⊎ (r.under ≡ 6302) → r.under ≡ row_label (label_at_line fs h) → Why r (among (state_at t fs k).members)
          → elem r.label (state_at t fs k).members ≡ true
      group-met r x u e w = go w
        where
          is-header : label_at_line fs h ≡ r.under
          is-header = label_of (label_at_line fs h) r.under (sym e) (not-name-row r.under u) (not-odd-row r.under u)

          m : MemberOf t (label_at_line fs h) r.label
          m = (subst (λ (y : ℕ). (y ≡ 8410) ⊎ (y ≡ 6302)) (sym is-header) u, r, x, sym is-header)

          go : Why r (among (state_at t fs k).members) → elem r.label (state_at t fs k).members ≡ true
          go (by_row q) = group-seen k l ended h o r x (rules.groups-complete h r.label (omega (arith, o.before)) m (r, x, q))
          go (by_value q v) = group-seen k l ended h o r x (subst (λ (y : ℕ). GroupHas t fs h y) (sym q) (rules.needs-8421 h (value-group k l ended h o v)))
          go (by-8438 q v) =
              let g = seen-group k l ended h o 8438 (λ z. omega arith) (λ z. omega arith) v in
              group-seen k l ended h o r x (subst (λ (y : ℕ). GroupHas t fs h y) (sym q) (rules.needs-8437 h g))

      pub group-lacks-none : open_lacking (table t) (state_at t fs k) ≡ []
      group-lacks-none = met-open h k (state_at t fs k) o (λ r x e n. by_level r x e (why r _ n) (row-regular t _ r x).level)
        where
          by_level : (r : Row) → HasRow t r.label r → r.under ≡ row_label (label_at_line fs h) → Why r (among (state_at t fs k).members)
              → (r.under ≡ set_level) ⊎ (((r.under ≡ 8410) ⊎ (r.under ≡ 6302)) ⊎ (r.under ≡ 6330)) → elem r.label (state_at t fs k).members ≡ true
          by_level r x e w (inl u) =
              absurd ((row-regular t _ o.top-level.0 o.top-level.1).not-zero (row-label t _ o.top-level.0 o.top-level.1 ∙ (sym e ∙ u)))
          by_level r x e w (inr (inl u)) = group-met r x u e w
          by_level r x e w (inr (inr u)) =
              let n = name_of (label_at_line fs h) (sym e ∙ u) in
              absurd (name-open k l ended h o n (rules.names-followed h (omega (arith, o.before)) n))

    closed-lacks-none : (st : State) → st.header ≡ no_header → open_lacking (table t) st ≡ []
    unfolding open_lacking
    closed-lacks-none st e = rw (eq-eqb st.header 0 e) refl

    ended-lacks-none : (k : ℕ) → k ≤ length fs → (k ≡ length fs) ⊎ AtSetLevel t (label_at_line fs k) → open_lacking (table t) (state_at t fs k) ≡ []
    ended-lacks-none k l e = go (behind-kept t fs rules k l).opened-is
      where
        go : Opened t fs k (state_at t fs k) → open_lacking (table t) (state_at t fs k) ≡ []
        go (open_at h o) = group-lacks-none k l e h o
        go (at-start p q) = closed-lacks-none (state_at t fs k) q
        go (behind-odd j p x q) = closed-lacks-none (state_at t fs k) q

    pub groups-lack-none : NoLack
    unfolding stays
    groups-lack-none = record { at_each = λ k l. each k l (stand-kept t fs rules k l); at-the-end = ended-lacks-none (length fs) (omega arith) (inl refl) }
      where
        each : (k : ℕ) → k < length fs → Stands t fs k (state_at t fs k) → lack_at k ≡ []
        each k l (at-set-level r h u) = rw (role-top t fs k (state_at t fs k) r h u) (ended-lacks-none k (omega arith) (inr (r, h, u)))
        each k l (in-open r h u e) = rw (role-open t fs k (state_at t fs k) r h u e) refl
        each k l (behind-name r h u e) = rw (role-odd t fs k (state_at t fs k) r h u e) refl
