-- 11, 12 and 13 over all lines are the rules on tables, groups, odd labels and repetition: both ways, by the state's description (StateLaws).
use mathlib.Core.Path.{◌≡◌, refl, sym, ap, ◌∙◌, subst}
use mathlib.Core.Bool.{Bool, true, false, cond, not, ◌||◌, true≢false}
use mathlib.Core.List.{List, [], cons≢nil}
use mathlib.Core.Logic.{◌⊎◌, inl, inr}
use mathlib.Core.Option.{Option, none, some}
use Prim.Native.Nat.{ℕ, zero, suc, ◌+◌, ◌≤◌, ◌<◌}
use native.Mathlib.Omega.{arith}
use lib.Dec.{eqb}
use lib.ListN.{length}
use borrow.Author.Tests.{eqb-true, eqb-false, eq-eqb, ne_eqb}
use Rattle.meaning.specs.declared.Row.{Row}
use Rattle.meaning.specs.declared.SetType.{SetType}
use Rattle.meaning.specs.Field.{Field, label_at_line, elem}
use Rattle.meaning.specs.Tables.{set_level, is_pair_label, row_label, table, find}
use Rattle.meaning.specs.Groups.{State, strayed, member, belongs, role_of, role, label_faults}
use Rattle.meaning.proofs.FaultLaws.{ask-last}
use Rattle.keeps.specs.Keeps.{HasRow, AtSetLevel, MemberOf, Repeats, IsOdd, InGroup, LabelsInTable, MembersInGroups, OddsAfterNames, NotRepeatedInSet, NotRepeatedInGroups, KeepsRules}
use Rattle.keeps.proofs.TableFacts.{Paired, inside, below, above, paired, le-cases, ne_cases, no-absurd, label_of, odd-row-label, Regular}
use Rattle.keeps.proofs.TableFacts.{row-regular, row-label, one-row, not-0, not-6330, member-no-pair, odd-row-odd, odd-is-pair}
use Rattle.keeps.proofs.StateLaws.{role_behind, state_at, OpenAt, Opened, open_at, at-start, behind-odd, Behind, behind-first, behind-next}
use Rattle.keeps.proofs.StateLaws.{Stands, at-set-level, in-open, behind-name, role-top, role-open, role-odd}

module _ (t : SetType) where
  -- ---- a member is never at set level, no header and no label of a pair

  pub member-not-top : (h l : ℕ) → MemberOf t h l → AtSetLevel t l → ⊥
  member-not-top h l m a =
      let same : m.1 ≡ a.0 = one-row t l m.1 a.0 m.2 a.1 in
      let u : h ≡ 0 = sym m.3 ∙ (ap (λ (r : Row). r.under) same ∙ a.2) in
      zero-no m.0 u
    where
      zero-no : (h ≡ 8410) ⊎ (h ≡ 6302) → h ≡ 0 → ⊥
      zero-no (inl p) q = omega arith
      zero-no (inr p) q = omega arith

  pub member-under : (h l : ℕ) (m : MemberOf t h l) → (m.1.under ≡ 8410) ⊎ (m.1.under ≡ 6302)
  member-under h l m = subst (λ (x : ℕ). (x ≡ 8410) ⊎ (x ≡ 6302)) (sym m.3) m.0

  pub member-plain : (h l : ℕ) → MemberOf t h l → is_pair_label l ≡ false
  member-plain h l m = member-no-pair t l m.1 m.2 (member-under h l m)

  pub member-not-header : (h l : ℕ) → MemberOf t h l → (l ≡ 8410) ⊎ (l ≡ 6302) → ⊥
  unfolding row_label
  member-not-header h l m p =
      let g : Regular m.1 = row-regular t l m.1 m.2 in
      let e : m.1.label ≡ row_label l = row-label t l m.1 m.2 in
      no-absurd (eq-eqb m.1.under 0 (g.header-at-set-level (label-is m.1.label e p))) (not-0 m.1.under (member-under h l m))
    where
      label-is : (x : ℕ) → x ≡ row_label l → (l ≡ 8410) ⊎ (l ≡ 6302) → (x ≡ 8410) ⊎ (x ≡ 6302)
      label-is x e (inl q) = inl (e ∙ ap row_label q)
      label-is x e (inr q) = inr (e ∙ ap row_label q)

  pub member-not-odd : (h l : ℕ) → MemberOf t h l → IsOdd l → ⊥
  member-not-odd h l m o = no-absurd (odd-is-pair l o) (member-plain h l m)

  -- a row at set level, and one of an odd label
  pub odd-not-top : (l : ℕ) (r : Row) → HasRow t l r → r.under ≡ set_level → IsOdd l → ⊥
  odd-not-top l r h u o = omega (arith, (row-regular t l r h).under-name (row-label t l r h ∙ odd-row-label l o))

  -- two labels with the same row are one, if the row is no name's and no odd label's
  pub alone : (l : ℕ) (r q : Row) (m : ℕ) → HasRow t l r → HasRow t m q → q.label ≡ r.label → (r.label ≡ 6330 → ⊥) → (r.label ≡ 6331 → ⊥) → m ≡ l
  alone l r q m h x e a b = label_of m r.label (sym (row-label t m q x) ∙ e) a b ∙ sym (label_of l r.label (sym (row-label t l r h)) a b)

module _ (t : SetType) (fs : List Field) where
  -- ---- one group at a time

  group-header : (i k : ℕ) → InGroup t fs i k → (label_at_line fs i ≡ 8410) ⊎ (label_at_line fs i ≡ 6302)
  group-header i k g = (g.all-members k g.behind (omega arith)).0

  -- the line that is open after k lines is the header of line k
  pub same-header : (i h k : ℕ) (st : State) → InGroup t fs i k → OpenAt t fs h k st → h ≡ i
  same-header i h k st g o = go (eqb h i) refl
    where
      ordered : (h < i) ⊎ (i < h) → ⊥
      ordered (inl p) = member-not-header t _ _ (o.members-all i p g.behind) (group-header i k g)
      ordered (inr p) = member-not-top t _ _ (g.all-members h p (omega (arith, o.before))) o.top-level

      go : (b : Bool) → eqb h i ≡ b → h ≡ i
      go true e = eqb-true h i e
      go false e = absurd (ordered (ne_cases h i (eqb-false h i e)))

  pub open-group : (h k : ℕ) (st : State) → k < length fs → OpenAt t fs h k st → MemberOf t (label_at_line fs h) (label_at_line fs k) → InGroup t fs h k
  open-group h k st l o m = record { behind = o.before; a-line = l; all-members = λ j p q. each j p (le-cases j k q) }
    where
      each : (j : ℕ) → h < j → (j < k) ⊎ (j ≡ k) → MemberOf t (label_at_line fs h) (label_at_line fs j)
      each j p (inl q) = o.members-all j p q
      each j p (inr q) = subst (λ (x : ℕ). MemberOf t (label_at_line fs h) (label_at_line fs x)) (sym q) m

  -- and so is every line between
  pub between-group : (h j k : ℕ) (st : State) → k ≤ length fs → OpenAt t fs h k st → h < j → j < k → InGroup t fs h j
  between-group h j k st l o p q = record { behind = p; a-line = omega arith; all-members = λ i x y. o.members-all i x (omega arith) }

  -- ---- no fault in the label: the line stands, and its label may stand there

  header_is : (u : ℕ) (h : ℕ) → eqb u h ≡ true → h ≡ u
  header_is u h e = sym (eqb-true u h e)

  -- By the row of the line's label, and by whether its header or name is open: every other case has a fault.
  pub stands : (k : ℕ) (st : State) → label_faults (role_behind t fs st k) st k (label_at_line fs k) ≡ [] → Stands t fs k st
  unfolding label_faults role role_of belongs
  stands k st e = go (find (table t) (label_at_line fs k)) refl e
    where
      l : ℕ
      l = label_at_line fs k

      belonging : (r : Row) → HasRow t l r → (r.under ≡ 8410) ⊎ (r.under ≡ 6302) → (b : Bool) → eqb r.under st.header ≡ b
          → label_faults (cond b (member r) strayed) st k l ≡ [] → Stands t fs k st
      belonging r h u true p q = in-open r h u (header_is r.under st.header p)
      belonging r h u false p q = absurd (cons≢nil q)

      following : (r : Row) → HasRow t l r → r.under ≡ 6330 → (b : Bool) → eqb (st.header + 1) l ≡ b → label_faults (cond b (member r) strayed) st k l ≡ [] → Stands t fs k st
      following r h u true p q = behind-name r h u (eqb-true (st.header + 1) l p)
      following r h u false p q = absurd (cons≢nil q)

      by_level : (r : Row) → HasRow t l r → (r.under ≡ set_level) ⊎ (((r.under ≡ 8410) ⊎ (r.under ≡ 6302)) ⊎ (r.under ≡ 6330))
          → label_faults (role_of r st.header l) st k l ≡ [] → Stands t fs k st
      by_level r h (inl u) q = at-set-level r h u
      by_level r h (inr (inl u)) q = belonging r h u (eqb r.under st.header) refl (rw (not-0 r.under u, not-6330 r.under u) at q)
      by_level r h (inr (inr u)) q =
          following r h u (eqb (st.header + 1) l) refl (rw (ne_eqb r.under 0 (λ x. omega arith), eq-eqb r.under 6330 u) at q)

      go : (o : Option Row) → find (table t) l ≡ o → label_faults (role o st.header l) st k l ≡ [] → Stands t fs k st
      go none p q = absurd (cons≢nil q)
      go (some r) p q = by_level r p (row-regular t l r p).level q

  -- it repeats, or it was not seen
  abbrev MayStand : Row → List ℕ → Type 0
  MayStand r ls = r.many || not (elem r.label ls) ≡ true

  pub not-repeated-top : (k : ℕ) (st : State) (r : Row) → HasRow t (label_at_line fs k) r → r.under ≡ set_level
      → label_faults (role_behind t fs st k) st k (label_at_line fs k) ≡ [] → MayStand r st.top
  unfolding label_faults
  not-repeated-top k st r h u e = ask-last _ _ (rw (role-top t fs k st r h u) at e)

  pub not-repeated-open : (k : ℕ) (st : State) (r : Row) → HasRow t (label_at_line fs k) r → (r.under ≡ 8410) ⊎ (r.under ≡ 6302) → st.header ≡ r.under
      → label_faults (role_behind t fs st k) st k (label_at_line fs k) ≡ [] → MayStand r st.members
  unfolding label_faults
  not-repeated-open k st r h u p e = ask-last _ _ (rw (role-open t fs k st r h u p) at e)

  repeats-so : (r : Row) (ls : List ℕ) → MayStand r ls → elem r.label ls ≡ true → r.many ≡ true
  repeats-so r ls m e = go r.many m
    where
      go : (b : Bool) → b || not (elem r.label ls) ≡ true → b ≡ true
      go true q = refl
      go false q = absurd (true≢false (sym (rw e at q)))

  header-no-0 : (h : ℕ) → (h ≡ 8410) ⊎ (h ≡ 6302) → h ≡ 0 → ⊥
  header-no-0 h (inl p) q = omega arith
  header-no-0 h (inr p) q = omega arith

  header-odd : (l : ℕ) → (l ≡ 8410) ⊎ (l ≡ 6302) → 6330 ≤ l → l ≤ 6399 → ⊥
  header-odd l (inl p) a b = omega arith
  header-odd l (inr p) a b = omega arith

  -- ---- a line that stands keeps its rules

  -- line k has no label fault in this state
  abbrev pub LabelFine : ℕ → State → Type 0
  LabelFine k st = label_faults (role_behind t fs st k) st k (label_at_line fs k) ≡ []

  module _ (k : ℕ) (st : State) (l : k < length fs) (b : Behind t fs k st) (s : Stands t fs k st) where
    pub row-there : (r : Row) × HasRow t (label_at_line fs k) r
    row-there = go s
      where
        go : Stands t fs k st → (r : Row) × HasRow t (label_at_line fs k) r
        go (at-set-level r h u) = (r, h)
        go (in-open r h u e) = (r, h)
        go (behind-name r h u e) = (r, h)

    -- how a member stands
    member-stands : (h : ℕ) → MemberOf t h (label_at_line fs k) → st.header ≡ h
    member-stands h m = go s
      where
        under-so : (r : Row) → HasRow t (label_at_line fs k) r → r.under ≡ h
        under-so r x = ap (λ (y : Row). y.under) (one-row t _ r m.1 x m.2) ∙ m.3

        go : Stands t fs k st → st.header ≡ h
        go (at-set-level r x u) = absurd (member-not-top t h _ m (r, x, u))
        go (in-open r x u e) = e ∙ under-so r x
        go (behind-name r x u e) = absurd (member-not-odd t h _ m (odd-row-odd t _ r x u))

    pub in-its-group : (h : ℕ) → MemberOf t h (label_at_line fs k) → (i : ℕ) × (label_at_line fs i ≡ h) × InGroup t fs i k
    in-its-group h m = go b.opened-is
      where
        e : st.header ≡ h
        e = member-stands h m

        go : Opened t fs k st → (i : ℕ) × (label_at_line fs i ≡ h) × InGroup t fs i k
        go (open_at i o) =
            let q : label_at_line fs i ≡ h = sym o.header_is ∙ e in
            (i, q, open-group i k st l o (subst (λ (x : ℕ). MemberOf t x (label_at_line fs k)) (sym q) m))
        go (at-start p q) = absurd (header-no-0 h m.0 (sym e ∙ q))
        go (behind-odd j p o q) = absurd (header-no-0 h m.0 (sym e ∙ q))

    pub after-its-name : IsOdd (label_at_line fs k) → (j : ℕ) × (k ≡ suc j) × (label_at_line fs k ≡ suc (label_at_line fs j))
    after-its-name o = go s
      where
        behind-its : st.header + 1 ≡ label_at_line fs k → Opened t fs k st → (j : ℕ) × (k ≡ suc j) × (label_at_line fs k ≡ suc (label_at_line fs j))
        behind-its e (open_at i x) = (i, next-line (le-cases (suc i) k x.before), omega (arith, x.header_is))
          where
            no_member : (label_at_line fs i ≡ 8410) ⊎ (label_at_line fs i ≡ 6302) → ⊥
            no_member (inl p) = omega (arith, x.header_is)
            no_member (inr p) = omega (arith, x.header_is)

            next-line : (suc i < k) ⊎ (suc i ≡ k) → k ≡ suc i
            next-line (inl p) = absurd (no_member (x.members-all (suc i) (omega arith) p).0)
            next-line (inr p) = sym p
        behind-its e (at-start p q) = absurd (omega arith)
        behind-its e (behind-odd j p x q) = absurd (omega arith)

        go : Stands t fs k st → (j : ℕ) × (k ≡ suc j) × (label_at_line fs k ≡ suc (label_at_line fs j))
        go (at-set-level r h u) = absurd (odd-not-top t _ r h u o)
        go (in-open r h u e) = no-absurd (odd-is-pair (label_at_line fs k) o) (member-no-pair t _ r h u)
        go (behind-name r h u e) = behind-its e b.opened-is

    module _ (fine : LabelFine k st) where
      -- a label that stood at set level before repeats
      pub repeats-in-set : (i : ℕ) → i < k → label_at_line fs i ≡ label_at_line fs k → AtSetLevel t (label_at_line fs k) → Repeats t (label_at_line fs k)
      repeats-in-set i p e a =
          let r = a.0 in
          let x : elem r.label st.top ≡ true = b.top_seen.sees i r (p, a.2) (subst (λ (y : ℕ). HasRow t y r) (sym e) a.1) in
          (r, a.1, repeats-so r st.top (not-repeated-top k st r a.1 a.2 fine) x)

      -- and one that stood in the group before
      pub repeats-in-group : (h i : ℕ) → i < k → InGroup t fs h i → InGroup t fs h k → label_at_line fs i ≡ label_at_line fs k → Repeats t (label_at_line fs k)
      repeats-in-group h i p g f e = go b.opened-is
        where
          m : MemberOf t (label_at_line fs h) (label_at_line fs k)
          m = f.all-members k f.behind (omega arith)

          header-so : st.header ≡ label_at_line fs h
          header-so = member-stands (label_at_line fs h) m

          go : Opened t fs k st → Repeats t (label_at_line fs k)
          go (open_at j o) =
              let same : j ≡ h = same-header h j k st f o in
              let x : elem m.1.label st.members ≡ true =
              o.members-seen.sees i m.1 (omega (arith, g.behind), p) (subst (λ (y : ℕ). HasRow t y m.1) (sym e) m.2) in
              (m.1, m.2, repeats-so m.1 st.members (not-repeated-open k st m.1 m.2 (member-under t _ _ m) (header-so ∙ sym m.3) fine) x)
          go (at-start x q) = absurd (header-no-0 _ m.0 (sym header-so ∙ q))
          go (behind-odd y x o q) = absurd (header-no-0 _ m.0 (sym header-so ∙ q))

  -- ---- from no fault to the rules

  -- after lines without label faults
  pub behind-fine : (m : ℕ) → ((k : ℕ) → k < m → LabelFine k (state_at t fs k)) → Behind t fs m (state_at t fs m)
  unfolding state_at
  behind-fine zero fine = behind-first t fs
  behind-fine (suc m) fine =
      behind-next t fs m (state_at t fs m) (behind-fine m (λ k l. fine k (omega arith))) (stands m (state_at t fs m) (fine m (omega arith)))

  module _ (fine : (k : ℕ) → k < length fs → LabelFine k (state_at t fs k)) where
    pub all-stand : (k : ℕ) → k < length fs → Stands t fs k (state_at t fs k)
    all-stand k l = stands k (state_at t fs k) (fine k l)

    pub all-behind : (k : ℕ) → k ≤ length fs → Behind t fs k (state_at t fs k)
    all-behind k l = behind-fine k (λ j p. fine j (omega arith))

    pub table_kept : LabelsInTable t fs
    table_kept k l = row-there k (state_at t fs k) l (all-behind k (omega arith)) (all-stand k l)

    pub groups-kept : MembersInGroups t fs
    groups-kept k h l m = in-its-group k (state_at t fs k) l (all-behind k (omega arith)) (all-stand k l) h m

    pub odds-kept : OddsAfterNames fs
    odds-kept k l o = after-its-name k (state_at t fs k) l (all-behind k (omega arith)) (all-stand k l) o

    later-set : (i j : ℕ) → i < j → j < length fs → label_at_line fs i ≡ label_at_line fs j → AtSetLevel t (label_at_line fs j) → Repeats t (label_at_line fs j)
    later-set i j p l e a = repeats-in-set j (state_at t fs j) l (all-behind j (omega arith)) (all-stand j l) (fine j l) i p e a

    pub none-repeated-in-set : NotRepeatedInSet t fs
    none-repeated-in-set i j p q n e a = go (ne_cases i j n)
      where
        at_j : AtSetLevel t (label_at_line fs j)
        at_j = subst (λ (y : ℕ). AtSetLevel t y) e a

        go : (i < j) ⊎ (j < i) → Repeats t (label_at_line fs i)
        go (inl x) = subst (λ (y : ℕ). Repeats t y) (sym e) (later-set i j x q e at_j)
        go (inr x) = later-set j i x p (sym e) a

    later-group : (h i j : ℕ) → i < j → InGroup t fs h i → InGroup t fs h j → label_at_line fs i ≡ label_at_line fs j → Repeats t (label_at_line fs j)
    later-group h i j p g f e =
        repeats-in-group j (state_at t fs j) f.a-line (all-behind j (omega (arith, f.a-line))) (all-stand j f.a-line) (fine j f.a-line) h i p g f e

    pub none-repeated-in-groups : NotRepeatedInGroups t fs
    none-repeated-in-groups h i j g f n e = go (ne_cases i j n)
      where
        go : (i < j) ⊎ (j < i) → Repeats t (label_at_line fs i)
        go (inl x) = subst (λ (y : ℕ). Repeats t y) (sym e) (later-group h i j x g f e)
        go (inr x) = later-group h j i x f g (sym e)

  -- ---- what a line must have before it to stand

  member-no-name : (h l : ℕ) → MemberOf t h l → 6330 ≤ l → suc l ≤ 6399 → ⊥
  member-no-name h l m a b = go (paired l)
    where
      go : Paired l → ⊥
      go (inside p q x y) = no-absurd x (member-plain t h l m)
      go (below p x y) = omega arith
      go (above p x y) = omega arith

  -- in a group its header is open
  pub open-header : (k : ℕ) (st : State) (i : ℕ) → InGroup t fs i k → Opened t fs k st → st.header ≡ label_at_line fs i
  open-header k st i g (open_at h o) = o.header_is ∙ ap (λ (x : ℕ). label_at_line fs x) (same-header i h k st g o)
  open-header k st i g (at-start p q) = absurd (omega (arith, g.behind))
  open-header k st i g (behind-odd j p o q) = absurd (go (le-cases i j (omega (arith, g.behind))))
    where
      go : (i < j) ⊎ (i ≡ j) → ⊥
      go (inl x) = member-not-odd t _ _ (g.all-members j x (omega arith)) o
      go (inr x) = header-odd (label_at_line fs j) (subst (λ (y : ℕ). (label_at_line fs y ≡ 8410) ⊎ (label_at_line fs y ≡ 6302)) x (group-header i k g)) (omega arith) (omega arith)

  -- after a name that name is open
  pub open-name : (k : ℕ) (st : State) (j : ℕ) → k ≡ suc j → IsOdd (label_at_line fs k) → label_at_line fs k ≡ suc (label_at_line fs j) → Opened t fs k st → st.header ≡ label_at_line fs j
  open-name k st j e o q (open_at h x) = go (le-cases h j (omega (arith, x.before)))
    where
      go : (h < j) ⊎ (h ≡ j) → st.header ≡ label_at_line fs j
      go (inl p) = absurd (member-no-name _ _ (x.members-all j p (omega arith)) (omega arith) (omega arith))
      go (inr p) = x.header_is ∙ ap (λ (y : ℕ). label_at_line fs y) p
  open-name k st j e o q (at-start p x) = absurd (omega arith)
  open-name k st j e o q (behind-odd i p y x) =
      let same : i ≡ j = omega arith in
      let z : IsOdd (label_at_line fs j) = subst (λ (w : ℕ). IsOdd (label_at_line fs w)) same y in
      absurd (omega arith)

  -- ---- what was seen before line k, if it does not repeat

  single-no-name : (l : ℕ) (r : Row) → HasRow t l r → r.many ≡ false → r.label ≡ 6330 → ⊥
  single-no-name l r h m q = true≢false (sym ((row-regular t l r h).name-repeats q) ∙ m)

  pub repeated-top : (k : ℕ) (st : State) (r : Row) → Behind t fs k st → HasRow t (label_at_line fs k) r → r.under ≡ set_level → r.many ≡ false → elem r.label st.top ≡ true
      → (i : ℕ) × (i < k) × (label_at_line fs i ≡ label_at_line fs k)
  repeated-top k st r b h u m e =
      let s = b.top_seen.seen r.label e in
      (s.0, s.2.0, alone t (label_at_line fs k) r s.1 (label_at_line fs s.0) h s.3 s.4 (single-no-name _ r h m) (λ q. omega (arith, (row-regular t _ r h).under-name q)))

  -- The label was seen in the open group, so a line of that group has its row, and that row is of one label.
  pub repeated-member : (k : ℕ) (st : State) (r : Row) → k < length fs → Behind t fs k st → HasRow t (label_at_line fs k) r → (r.under ≡ 8410) ⊎ (r.under ≡ 6302)
      → st.header ≡ r.under → elem r.label st.members ≡ true
      → (h : ℕ) × (i : ℕ) × (i < k) × InGroup t fs h i × InGroup t fs h k × (label_at_line fs i ≡ label_at_line fs k)
  repeated-member k st r l b h u e x = go b.opened-is
    where
      g : Regular r
      g = row-regular t _ r h

      no_name : r.label ≡ 6330 → ⊥
      no_name q = no-absurd (eq-eqb r.under 0 (g.name-at-set-level q)) (not-0 r.under u)

      no-odd : r.label ≡ 6331 → ⊥
      no-odd q = no-absurd (eq-eqb r.under 6330 (g.under-name q)) (not-6330 r.under u)

      go : Opened t fs k st → (h : ℕ) × (i : ℕ) × (i < k) × InGroup t fs h i × InGroup t fs h k × (label_at_line fs i ≡ label_at_line fs k)
      go (open_at i o) =
          let s = o.members-seen.seen r.label x in
          let q : r.under ≡ label_at_line fs i = sym e ∙ o.header_is in
          let m : MemberOf t (label_at_line fs i) (label_at_line fs k) = (subst (λ (y : ℕ). (y ≡ 8410) ⊎ (y ≡ 6302)) q u, r, h, q) in (
            i,
            s.0,
            s.2.1,
            between-group i s.0 k st (omega arith) o s.2.0 s.2.1,
            open-group i k st l o m,
            alone t (label_at_line fs k) r s.1 (label_at_line fs s.0) h s.3 s.4 no_name no-odd,
          )
      go (at-start p q) = no-absurd (eq-eqb r.under 0 (sym e ∙ q)) (not-0 r.under u)
      go (behind-odd j p o q) = no-absurd (eq-eqb r.under 0 (sym e ∙ q)) (not-0 r.under u)

  -- nothing stands between a name and its odd label
  pub repeated-odd : (k : ℕ) (st : State) (r : Row) → Behind t fs k st → HasRow t (label_at_line fs k) r → r.under ≡ 6330 → st.header + 1 ≡ label_at_line fs k
      → elem r.label st.members ≡ true → ⊥
  repeated-odd k st r b h u e x = go b.opened-is
    where
      o : IsOdd (label_at_line fs k)
      o = odd-row-odd t _ r h u

      go : Opened t fs k st → ⊥
      go (open_at i y) =
          let s = y.members-seen.seen r.label x in
          header-odd (label_at_line fs i) (y.members-all s.0 s.2.0 s.2.1).0 (omega (arith, y.header_is, o.0)) (omega (arith, y.header_is, o.1))
      go (at-start p q) = omega (arith, o.0)
      go (behind-odd j p y q) = omega (arith, o.0)

  -- ---- from the rules to no fault

  module _ (rules : KeepsRules t fs) where
    stands-kept : (k : ℕ) (st : State) → k < length fs → Behind t fs k st → Stands t fs k st
    stands-kept k st l b = go (row-regular t _ r h).level
      where
        r : Row
        r = (rules.in_table k l).0

        h : HasRow t (label_at_line fs k) r
        h = (rules.in_table k l).1

        go : (r.under ≡ set_level) ⊎ (((r.under ≡ 8410) ⊎ (r.under ≡ 6302)) ⊎ (r.under ≡ 6330)) → Stands t fs k st
        go (inl u) = at-set-level r h u
        go (inr (inl u)) =
            let g = rules.in-groups k r.under l (u, r, h, refl) in
            in-open r h u (open-header k st g.0 g.2 b.opened-is ∙ g.1)
        go (inr (inr u)) =
            let o : IsOdd (label_at_line fs k) = odd-row-odd t _ r h u in
            let n = rules.after-names k l o in
            behind-name r h u (omega (arith, open-name k st n.0 n.1 o n.2 b.opened-is, n.2))

    pub behind-kept : (k : ℕ) → k ≤ length fs → Behind t fs k (state_at t fs k)
    unfolding state_at
    behind-kept zero l = behind-first t fs
    behind-kept (suc k) l =
        let b : Behind t fs k (state_at t fs k) = behind-kept k (omega arith) in
        behind-next t fs k (state_at t fs k) b (stands-kept k (state_at t fs k) (omega arith) b)

    pub stand-kept : (k : ℕ) → k < length fs → Stands t fs k (state_at t fs k)
    stand-kept k l = stands-kept k (state_at t fs k) l (behind-kept k (omega arith))

    -- a label may stand if it repeats or was not seen
    may-stand : (r : Row) (ls : List ℕ) → (r.many ≡ false → elem r.label ls ≡ true → ⊥) → MayStand r ls
    may-stand r ls f = go r.many (elem r.label ls) refl refl
      where
        go : (m e : Bool) → r.many ≡ m → elem r.label ls ≡ e → m || not e ≡ true
        go true e p q = refl
        go false true p q = absurd (f p q)
        go false false p q = refl

    not-repeated : (l : ℕ) (r : Row) → HasRow t l r → r.many ≡ false → Repeats t l → ⊥
    not-repeated l r h m x = true≢false (sym x.2 ∙ (ap (λ (y : Row). y.many) (one-row t l x.0 r x.1 h) ∙ m))

    top-may : (k : ℕ) (st : State) (r : Row) → k < length fs → Behind t fs k st → HasRow t (label_at_line fs k) r → r.under ≡ set_level → MayStand r st.top
    top-may k st r l b h u = may-stand r st.top (λ m e. seen-before m (repeated-top k st r b h u m e))
      where
        seen-before : r.many ≡ false → (i : ℕ) × (i < k) × (label_at_line fs i ≡ label_at_line fs k) → ⊥
        seen-before m x =
            not-repeated (label_at_line fs k) r h m
            (rules.not-repeated-in-set k x.0 l (omega (arith, x.1)) (λ q. omega (arith, x.1)) (sym x.2) (r, h, u))

    member-may : (k : ℕ) (st : State) (r : Row) → k < length fs → Behind t fs k st → HasRow t (label_at_line fs k) r → (r.under ≡ 8410) ⊎ (r.under ≡ 6302)
        → st.header ≡ r.under → MayStand r st.members
    member-may k st r l b h u e = may-stand r st.members (λ m x. seen-before m x)
      where
        seen-before : r.many ≡ false → elem r.label st.members ≡ true → ⊥
        seen-before m x =
            let y = repeated-member k st r l b h u e x in
            not-repeated (label_at_line fs k) r h m (rules.not-repeated-in-groups y.0 k y.1 y.4 y.3 (λ q. omega (arith, y.2)) (sym y.5))

    odd-may : (k : ℕ) (st : State) (r : Row) → Behind t fs k st → HasRow t (label_at_line fs k) r → r.under ≡ 6330 → st.header + 1 ≡ label_at_line fs k → MayStand r st.members
    odd-may k st r b h u e = may-stand r st.members (λ m x. repeated-odd k st r b h u e x)

    pub labels-fine : (k : ℕ) → k < length fs → label_faults (role_behind t fs (state_at t fs k) k) (state_at t fs k) k (label_at_line fs k) ≡ []
    unfolding label_faults
    labels-fine k l = go (stand-kept k l)
      where
        st : State
        st = state_at t fs k

        b : Behind t fs k st
        b = behind-kept k (omega arith)

        go : Stands t fs k st → label_faults (role_behind t fs st k) st k (label_at_line fs k) ≡ []
        go (at-set-level r h u) = rw (role-top t fs k st r h u, top-may k st r l b h u) refl
        go (in-open r h u e) = rw (role-open t fs k st r h u e, member-may k st r l b h u e) refl
        go (behind-name r h u e) = rw (role-odd t fs k st r h u e, odd-may k st r b h u e) refl
