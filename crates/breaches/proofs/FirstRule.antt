-- 11 to 15: the first fault of a line after lines without faults is a breach of its rule, and no rule of a smaller number is broken there.
use mathlib.Core.Path.{◌≡◌, refl, sym, ap, ◌∙◌}
use mathlib.Core.Bool.{Bool, true, false, cond, not, ◌||◌, true≢false}
use mathlib.Core.List.{List, [], ◌∷◌, ◌++◌, cons≢nil}
use mathlib.Core.Logic.{◌⊎◌, inl, inr, ◌≢◌}
use mathlib.Core.Option.{Option, none, some}
use Prim.Native.Nat.{ℕ, zero, suc, ◌+◌, ◌≤◌, ◌<◌}
use native.Mathlib.Omega.{arith}
use lib.Dec.{eqb}
use lib.ListN.{length, drop, get_or}
use borrow.Author.Tests.{eqb-true, eqb-false, eq-eqb, ne_eqb}
use Rattle.meaning.specs.declared.Row.{Row}
use Rattle.meaning.specs.declared.SetType.{SetType}
use Rattle.meaning.specs.Digits.{digits}
use Rattle.meaning.specs.Field.{Field, no_field, label_at_line, content_at_line, elem}
use Rattle.meaning.specs.Refusals.{Fault, at_line, ask, stray, repeated, bad_content, other_version}
use Rattle.meaning.specs.Kinds.{point, is0210}
use Rattle.meaning.specs.FieldTable.{fits_label}
use Rattle.meaning.specs.Tables.{set_level, table, find}
use Rattle.meaning.specs.Groups.{State, first, strayed, member, belongs, role_of, role, repeated_faults, label_faults}
use Rattle.meaning.specs.Rules.{fits, current, content_faults, content_rules, line_rules, rules_from}
use Rattle.meaning.proofs.FaultLaws.{append-none}
use Rattle.meaning.proofs.RuleLaws.{line-fits}
use Rattle.keeps.specs.Keeps.{HasRow, Repeats}
use Rattle.keeps.proofs.TableFacts.{no-absurd, one-row, row-regular, not-0, not-6330, odd-row-odd}
use Rattle.keeps.proofs.StateLaws.{role_behind, state_at, Behind, Stands, at-set-level, in-open, behind-name, role-top, role-open, role-odd}
use Rattle.keeps.proofs.LabelLaws.{LabelFine, row-there, in-its-group, after-its-name, repeats-in-set, repeats-in-group, stands, open-header}
use Rattle.keeps.proofs.LabelLaws.{open-name, repeated-top, repeated-member, repeated-odd, behind-fine}
use Rattle.keeps.proofs.RulesExact.{typed, faults_at, rules-step, rules-end, version-current, version-at}
use Rattle.breaches.specs.Breaches.{Single, RuleBreach, not-in-set, stray-member, stray-odd, repeated-in-set, repeated-in-group, bad-content, other-version, rule_number}
use Rattle.breaches.proofs.FirstLine.{same_head, head-append, ask-head, none-to-next}

none_row : {r : Row} → ◌≡◌ {A = Option Row} none (some r) → ⊥
none_row e = let z : ◌≡◌ {A = ℕ} 0 1 = cc in omega arith

-- ---- one line

module _ (t : SetType) (fs : List Field) (k : ℕ) (st : State) (inside : k < length fs) (b : Behind t fs k st) where
  -- the rules with a number below m hold at line k
  record Kept (m : ℕ) : Type 0 where
    table_kept : 11 < m → (r : Row) × HasRow t (label_at_line fs k) r
    place_kept : 12 < m → Stands t fs k st
    not-repeated-kept : 13 < m → LabelFine t fs k st
    content-kept : 14 < m → fits_label (label_at_line fs k) (content_at_line fs k) ≡ true
    no_more : m ≤ 15

  not-single : Single t (label_at_line fs k) → Repeats t (label_at_line fs k) → ⊥
  not-single x y = true≢false (sym y.2 ∙ (ap (λ (r : Row). r.many) (one-row t _ y.0 x.0 y.1 x.1) ∙ x.2))

  none-less : (m : ℕ) → Kept m → (c : RuleBreach t fs k) → rule_number c < m → ⊥
  none-less m h (not-in-set e) l = let r = h.table_kept l in e r.0 r.1
  none-less m h (stray-member i x e) l = let g = in-its-group t fs k st inside b (h.place_kept l) i x in e g.0 g.1 g.2
  none-less m h (stray-odd o e) l = let g = after-its-name t fs k st inside b (h.place_kept l) o in e g.0 g.1 g.2
  none-less m h (repeated-in-set i p e a x) l =
      not-single x (repeats-in-set t fs k st inside b (h.place_kept (omega arith)) (h.not-repeated-kept l) i p e a)
  none-less m h (repeated-in-group g i p x y e z) l =
      not-single z (repeats-in-group t fs k st inside b (h.place_kept (omega arith)) (h.not-repeated-kept l) g i p x y e)
  none-less m h (bad-content e) l = no-absurd (h.content-kept l) e
  none-less m h (other-version e n) l = omega (arith, h.no_more)

  -- the first breach of the line
  pub record RuleFirst (x : Fault) : Type 0 where
    pub breach : RuleBreach t fs k
    pub is : x ≡ at_line (rule_number breach) k (label_at_line fs k)
    pub none-smaller : (c : RuleBreach t fs k) → rule_number c < rule_number breach → ⊥

  -- a label that is single and was seen
  seen-single : (r : Row) (ls : List ℕ) → r.many || not (elem r.label ls) ≡ false → (r.many ≡ false) × (elem r.label ls ≡ true)
  seen-single r ls e = go r.many (elem r.label ls) refl refl e
    where
      go : (m c : Bool) → r.many ≡ m → elem r.label ls ≡ c → m || not c ≡ false → (r.many ≡ false) × (elem r.label ls ≡ true)
      go true c p q z = absurd (true≢false z)
      go false true p q z = (p, q)
      go false false p q z = absurd (true≢false z)

  -- the first breach if the label has no fault: 14 if the content does not fit, else 15; 11 to 13 are kept
  content-first : (x : Fault) (xs : List Fault) → Stands t fs k st → LabelFine t fs k st → content_faults (typed t) k (get_or fs k no_field) ≡ x ∷ xs → RuleFirst x
  unfolding content_faults fits current is0210
  content-first x xs s fine e = go (fits_label (label_at_line fs k) (content_at_line fs k)) refl e
    where
      not-version : current (typed t) (get_or fs k no_field) ≡ false → (label_at_line fs k ≡ 9218) × (content_at_line fs k ≢ digits 2 2 ++ (point ∷ digits 2 10))
      not-version q = version (eqb (label_at_line fs k) 9218) refl
        where
          version : (c : Bool) → eqb (label_at_line fs k) 9218 ≡ c → (label_at_line fs k ≡ 9218) × (content_at_line fs k ≢ digits 2 2 ++ (point ∷ digits 2 10))
          version true p = (eqb-true _ _ p, λ z. no-absurd (version-current (typed t) (get_or fs k no_field) (λ y. z)) q)
          version false p = no-absurd (version-current (typed t) (get_or fs k no_field) (λ y. absurd (eqb-false _ _ p y))) q

      go : (c : Bool) → fits_label (label_at_line fs k) (content_at_line fs k) ≡ c
          → cond c (ask (current (typed t) (get_or fs k no_field)) (at_line other_version k (label_at_line fs k))) (at_line bad_content k (label_at_line fs k) ∷ []) ≡ x ∷ xs → RuleFirst x
      go false p q = record {
        breach = bad-content p;
        is = sym (same_head q);
        none-smaller = none-less 14 (record {
          table_kept = λ z. row-there t fs k st inside b s;
          place_kept = λ z. s;
          not-repeated-kept = λ z. fine;
          content-kept = λ z. absurd (omega arith);
          no_more = omega arith;
        });
      }
      go true p q =
          let h = ask-head (current (typed t) (get_or fs k no_field)) (at_line other_version k (label_at_line fs k)) x xs q in
          let v = not-version h.0 in
          record {
            breach = other-version v.0 v.1;
            is = h.1;
            none-smaller = none-less 15 (record {
              table_kept = λ z. row-there t fs k st inside b s;
              place_kept = λ z. s;
              not-repeated-kept = λ z. fine;
              content-kept = λ z. p;
              no_more = omega arith;
            });
          }

  placed : Stands t fs k st → Kept 13
  placed s = record {
    table_kept = λ z. row-there t fs k st inside b s;
    place_kept = λ z. s;
    not-repeated-kept = λ z. absurd (omega arith);
    content-kept = λ z. absurd (omega arith);
    no_more = omega arith;
  }

  known : (r : Row) → HasRow t (label_at_line fs k) r → Kept 12
  known r h = record {
    table_kept = λ z. (r, h);
    place_kept = λ z. absurd (omega arith);
    not-repeated-kept = λ z. absurd (omega arith);
    content-kept = λ z. absurd (omega arith);
    no_more = omega arith;
  }

  unasked : Kept 11
  unasked = record {
    table_kept = λ z. absurd (omega arith);
    place_kept = λ z. absurd (omega arith);
    not-repeated-kept = λ z. absurd (omega arith);
    content-kept = λ z. absurd (omega arith);
    no_more = omega arith;
  }

  -- The first breach of a line that stands in its place: 13 if its row is single and was seen, else that of its content.
  placed_first : (x : Fault) (xs : List Fault) (r : Row) (seen : List ℕ) → Stands t fs k st
      → (r.many ≡ false → elem r.label seen ≡ true → (c : RuleBreach t fs k) × (rule_number c ≡ repeated))
      → (repeated_faults r seen k (label_at_line fs k) ≡ [] → LabelFine t fs k st)
      → repeated_faults r seen k (label_at_line fs k) ++ content_faults (typed t) k (get_or fs k no_field) ≡ x ∷ xs → RuleFirst x
  placed_first x xs r seen s again fine e = go (head-append (repeated_faults r seen k (label_at_line fs k)) (content_faults (typed t) k (get_or fs k no_field)) x xs e)
    where
      go : ((ys : List Fault) × (repeated_faults r seen k (label_at_line fs k) ≡ x ∷ ys))
          ⊎ ((repeated_faults r seen k (label_at_line fs k) ≡ []) × (content_faults (typed t) k (get_or fs k no_field) ≡ x ∷ xs)) → RuleFirst x
      go (inl q) =
          let a = ask-head (r.many || not (elem r.label seen)) (at_line repeated k (label_at_line fs k)) x q.0 q.1 in
          let m = seen-single r seen a.0 in
          let c = again m.0 m.1 in
          record {
            breach = c.0;
            is = a.1 ∙ ap (λ (n : ℕ). at_line n k (label_at_line fs k)) (sym c.1);
            none-smaller = λ d l. none-less 13 (placed s) d (omega (arith, c.1));
          }
      go (inr q) = content-first x xs s (fine q.0) q.1

  -- the same, by where its row r stands
  top-first : (x : Fault) (xs : List Fault) (r : Row) → HasRow t (label_at_line fs k) r → r.under ≡ set_level
      → line_rules (role_behind t fs st k) (typed t) st k (get_or fs k no_field) ≡ x ∷ xs → RuleFirst x
  unfolding line_rules label_faults content_rules
  top-first x xs r h u e =
      let o = role-top t fs k st r h u in
      placed_first x xs r st.top (at-set-level r h u)
      (λ m n. let g = repeated-top t fs k st r b h u m n in (repeated-in-set g.0 g.1 g.2 (r, h, u) (r, h, m), refl)) (λ n. rw o n) (rw o at e)

  open-first : (x : Fault) (xs : List Fault) (r : Row) → HasRow t (label_at_line fs k) r → (r.under ≡ 8410) ⊎ (r.under ≡ 6302) → st.header ≡ r.under
      → line_rules (role_behind t fs st k) (typed t) st k (get_or fs k no_field) ≡ x ∷ xs → RuleFirst x
  unfolding line_rules label_faults content_rules
  open-first x xs r h u q e =
      let o = role-open t fs k st r h u q in
      placed_first x xs r st.members (in-open r h u q)
      (λ m n. let g = repeated-member t fs k st r inside b h u q n in (repeated-in-group g.0 g.1 g.2 g.3 g.4 g.5 (r, h, m), refl)) (λ n. rw o n) (rw o at e)

  odd-first : (x : Fault) (xs : List Fault) (r : Row) → HasRow t (label_at_line fs k) r → r.under ≡ 6330 → st.header + 1 ≡ label_at_line fs k
      → line_rules (role_behind t fs st k) (typed t) st k (get_or fs k no_field) ≡ x ∷ xs → RuleFirst x
  unfolding line_rules label_faults content_rules
  odd-first x xs r h u q e =
      let o = role-odd t fs k st r h u q in
      placed_first x xs r st.members (behind-name r h u q) (λ m n. absurd (repeated-odd t fs k st r b h u q n)) (λ n. rw o n) (rw o at e)

  stray-first : (x : Fault) (r : Row) → HasRow t (label_at_line fs k) r → (c : RuleBreach t fs k) → rule_number c ≡ stray → x ≡ at_line stray k (label_at_line fs k) → RuleFirst x
  stray-first x r h c e q = record {
    breach = c;
    is = q ∙ ap (λ (n : ℕ). at_line n k (label_at_line fs k)) (sym e);
    none-smaller = λ d l. none-less 12 (known r h) d (omega arith);
  }

  -- By the row of the label: none is 11. Else by where the row stands, and whether its header or name is open: 12 if not, else 13, 14 or 15.
  pub rule-first : (x : Fault) (xs : List Fault) → line_rules (role_behind t fs st k) (typed t) st k (get_or fs k no_field) ≡ x ∷ xs → RuleFirst x
  unfolding line_rules label_faults role role_of belongs
  rule-first x xs e = go (find (table t) (label_at_line fs k)) refl e
    where
      l : ℕ
      l = label_at_line fs k

      no_header : (r : Row) → HasRow t l r → (r.under ≡ 8410) ⊎ (r.under ≡ 6302) → eqb r.under st.header ≡ false → RuleBreach t fs k
      no_header r h u q =
          stray-member r.under (u, r, h, refl) (λ i p g. eqb-false _ _ q (sym (open-header t fs k st i g b.opened-is ∙ p)))

      no_name : (r : Row) → HasRow t l r → r.under ≡ 6330 → eqb (st.header + 1) l ≡ false → RuleBreach t fs k
      no_name r h u q =
          let o = odd-row-odd t l r h u in
          stray-odd o (λ j p w. eqb-false (st.header + 1) l q (omega (arith, open-name t fs k st j p o w b.opened-is, w)))

      by-header : (r : Row) → HasRow t l r → (u : (r.under ≡ 8410) ⊎ (r.under ≡ 6302)) → (c : Bool) → eqb r.under st.header ≡ c
          → line_rules (cond c (member r) strayed) (typed t) st k (get_or fs k no_field) ≡ x ∷ xs → RuleFirst x
      by-header r h u true q z = open-first x xs r h u (sym (eqb-true r.under st.header q)) e
      by-header r h u false q z = stray-first x r h (no_header r h u q) refl (sym (same_head z))

      by_name : (r : Row) → HasRow t l r → (u : r.under ≡ 6330) → (c : Bool) → eqb (st.header + 1) l ≡ c
          → line_rules (cond c (member r) strayed) (typed t) st k (get_or fs k no_field) ≡ x ∷ xs → RuleFirst x
      by_name r h u true q z = odd-first x xs r h u (eqb-true (st.header + 1) l q) e
      by_name r h u false q z = stray-first x r h (no_name r h u q) refl (sym (same_head z))

      by_level : (r : Row) → HasRow t l r → (r.under ≡ set_level) ⊎ (((r.under ≡ 8410) ⊎ (r.under ≡ 6302)) ⊎ (r.under ≡ 6330))
          → line_rules (role_of r st.header l) (typed t) st k (get_or fs k no_field) ≡ x ∷ xs → RuleFirst x
      by_level r h (inl u) q = top-first x xs r h u e
      by_level r h (inr (inl u)) q = by-header r h u (eqb r.under st.header) refl (rw (not-0 r.under u, not-6330 r.under u) at q)
      by_level r h (inr (inr u)) q =
          by_name r h u (eqb (st.header + 1) l) refl (rw (ne_eqb r.under 0 (λ z. omega arith), eq-eqb r.under 6330 u) at q)

      go : (o : Option Row) → find (table t) l ≡ o → line_rules (role o st.header l) (typed t) st k (get_or fs k no_field) ≡ x ∷ xs → RuleFirst x
      go none p q = record {
        breach = not-in-set (λ r h. none_row (sym p ∙ h));
        is = sym (same_head q);
        none-smaller = none-less 11 unasked;
      }
      go (some r) p q = by_level r p (row-regular t l r p).level q

-- ---- all lines

module _ (t : SetType) (fs : List Field) where
  pub record FirstFault (x : Fault) : Type 0 where
    pub at-line : ℕ
    pub inside : at-line < length fs
    pub before-fine : (j : ℕ) → j < at-line → faults_at t fs j ≡ []
    pub others : List Fault
    pub its-faults : faults_at t fs at-line ≡ x ∷ others

  first-from : (n i : ℕ) (x : Fault) (xs : List Fault) → i + n ≡ length fs → ((j : ℕ) → j < i → faults_at t fs j ≡ [])
      → rules_from (typed t) (state_at t fs i) i (drop i fs) ≡ x ∷ xs → FirstFault x
  first-from zero i x xs e h q = absurd (cons≢nil (sym q ∙ rules-end t fs i (omega arith)))
  first-from (suc n) i x xs e h q = go (first-from n (suc i) x xs (omega arith)) (head-append (faults_at t fs i) _ x xs (sym (rules-step t fs i (omega arith)) ∙ q))
    where
      go : (((j : ℕ) → j < suc i → faults_at t fs j ≡ []) → rules_from (typed t) (state_at t fs (suc i)) (suc i) (drop (suc i) fs) ≡ x ∷ xs → FirstFault x)
          → ((ys : List Fault) × (faults_at t fs i ≡ x ∷ ys))
          ⊎ ((faults_at t fs i ≡ []) × (rules_from (typed t) (state_at t fs (suc i)) (suc i) (drop (suc i) fs) ≡ x ∷ xs)) → FirstFault x
      go ih (inl p) = record { at-line = i; inside = omega arith; before-fine = h; others = p.0; its-faults = p.1 }
      go ih (inr p) = ih (none-to-next (faults_at t fs) i h p.0) p.1

  pub first-fault : (x : Fault) (xs : List Fault) → rules_from (typed t) first 0 fs ≡ x ∷ xs → FirstFault x
  unfolding state_at
  first-fault x xs e = first-from (length fs) 0 x xs (omega arith) (λ j l. absurd (omega arith)) e

  -- the labels of lines without faults
  labels-of : (k : ℕ) → faults_at t fs k ≡ [] → LabelFine t fs k (state_at t fs k)
  unfolding line_rules
  labels-of k e = (append-none (label_faults (role_behind t fs (state_at t fs k) k) (state_at t fs k) k (label_at_line fs k)) _ e).0

  pub behind-line : (k : ℕ) → ((j : ℕ) → j < k → faults_at t fs j ≡ []) → Behind t fs k (state_at t fs k)
  behind-line k h = behind-fine t fs k (λ j p. labels-of j (h j p))

  -- a line without faults, after lines without faults, breaks no rule
  pub fine-line : (k : ℕ) → k < length fs → ((j : ℕ) → j < suc k → faults_at t fs j ≡ []) → RuleBreach t fs k → ⊥
  unfolding fits
  fine-line k l h c =
      let st : State = state_at t fs k in
      let e : faults_at t fs k ≡ [] = h k (omega arith) in
      let b : Behind t fs k st = behind-line k (λ j p. h j (omega arith)) in
      let fine : LabelFine t fs k st = labels-of k e in
      let s : Stands t fs k st = stands t fs k st fine in
      no-breach k l b s fine (line-fits _ (typed t) st k (get_or fs k no_field) e) (line-version k e) c
    where
      line-version : (j : ℕ) → faults_at t fs j ≡ [] → label_at_line fs j ≡ 9218 → content_at_line fs j ≡ digits 2 2 ++ (point ∷ digits 2 10)
      line-version j e = version-at t fs j e

      no-breach : (j : ℕ) (p : j < length fs) (b : Behind t fs j (state_at t fs j)) (s : Stands t fs j (state_at t fs j)) (fine : LabelFine t fs j (state_at t fs j))
          → fits_label (label_at_line fs j) (content_at_line fs j) ≡ true → (label_at_line fs j ≡ 9218 → content_at_line fs j ≡ digits 2 2 ++ (point ∷ digits 2 10)) → RuleBreach t fs j → ⊥
      no-breach j p b s fine q v (other-version e n) = n (v e)
      no-breach j p b s fine q v (not-in-set e) = let r = row-there t fs j (state_at t fs j) p b s in e r.0 r.1
      no-breach j p b s fine q v (stray-member i x e) = let g = in-its-group t fs j (state_at t fs j) p b s i x in e g.0 g.1 g.2
      no-breach j p b s fine q v (stray-odd o e) = let g = after-its-name t fs j (state_at t fs j) p b s o in e g.0 g.1 g.2
      no-breach j p b s fine q v (repeated-in-set i x e a y) = not-single t fs j (state_at t fs j) p b y (repeats-in-set t fs j (state_at t fs j) p b s fine i x e a)
      no-breach j p b s fine q v (repeated-in-group g i x y z e w) =
          not-single t fs j (state_at t fs j) p b w (repeats-in-group t fs j (state_at t fs j) p b s fine g i x y z e)
      no-breach j p b s fine q v (bad-content e) = no-absurd q e
