-- The state after k lines, described by the lines: which line at set level is the nearest before line k, and which rows were seen since it and at set level.
-- `behind-next` is the step from line to line; every rule over labels is read off this description (LabelLaws, LackLaws).
use mathlib.Core.Path.{◌≡◌, refl, sym, ap, ◌∙◌, subst}
use mathlib.Core.Bool.{Bool, true, false, ◌||◌, true≢false}
use mathlib.Core.List.{List, [], ◌∷◌}
use mathlib.Core.Logic.{◌⊎◌, inl, inr}
use Prim.Native.Nat.{ℕ, zero, suc, ◌+◌, ◌<◌}
use native.Mathlib.Omega.{arith}
use lib.Dec.{eqb}
use borrow.Author.Tests.{eqb-true, eq-eqb, ne_eqb}
use Rattle.meaning.specs.declared.Row.{Row}
use Rattle.meaning.specs.declared.SetType.{SetType}
use Rattle.meaning.specs.Field.{Field, label_at_line, elem}
use Rattle.meaning.specs.Tables.{set_level, table, find}
use Rattle.meaning.specs.Groups.{State, first, no_header, Role, at_set_level, member, belongs, role_of, role, next}
use Rattle.keeps.specs.Keeps.{HasRow, AtSetLevel, MemberOf, IsOdd}
use Rattle.keeps.proofs.TableFacts.{or_cases, le-cases, no-absurd, one-row, not-0, not-6330, member-no-pair, odd-row-odd, odd-is-pair}

module _ (t : SetType) (fs : List Field) where
  -- the role of line k in a state, and the state after k lines
  abbrev pub role_behind : State → ℕ → Role
  role_behind st k = role (find (table t) (label_at_line fs k)) st.header (label_at_line fs k)

  unfoldable pub state_at : ℕ → State
  state_at zero = first
  state_at (suc k) = next (role_behind (state_at k) k) (state_at k) k (label_at_line fs k)

  -- ---- which rows were seen

  -- ls are the labels of the rows of the lines of which P holds
  pub record Seen (P : ℕ → Row → Type 0) (ls : List ℕ) : Type 0 where
    pub seen : (l : ℕ) → elem l ls ≡ true → (j : ℕ) × (r : Row) × P j r × HasRow t (label_at_line fs j) r × (r.label ≡ l)
    pub sees : (j : ℕ) (r : Row) → P j r → HasRow t (label_at_line fs j) r → elem r.label ls ≡ true

  seen_none : (P : ℕ → Row → Type 0) → ((j : ℕ) (r : Row) → P j r → ⊥) → Seen P []
  unfolding elem
  seen_none P n = record { seen = λ l e. absurd (true≢false (sym e)); sees = λ j r p h. absurd (n j r p) }

  seen_same : (P Q : ℕ → Row → Type 0) (ls : List ℕ) → ((j : ℕ) (r : Row) → P j r → Q j r)
      → ((j : ℕ) (r : Row) → HasRow t (label_at_line fs j) r → Q j r → P j r) → Seen P ls → Seen Q ls
  seen_same P Q ls to from s = record {
    seen = λ l e. let x = s.seen l e in (x.0, x.1, to x.0 x.1 x.2, x.3, x.4);
    sees = λ j r q h. s.sees j r (from j r h q) h;
  }

  -- one line more
  seen_more : (P Q : ℕ → Row → Type 0) (ls : List ℕ) (k : ℕ) (r : Row) → HasRow t (label_at_line fs k) r → Q k r → ((j : ℕ) (q : Row) → P j q → Q j q)
      → ((j : ℕ) (q : Row) → Q j q → P j q ⊎ (j ≡ k)) → Seen P ls → Seen Q (r.label ∷ ls)
  unfolding elem
  seen_more P Q ls k r h qk to from s = record { seen = λ l e. which l (or_cases (eqb l r.label) _ e); sees = λ j q x y. sees-one j q y (from j q x) }
    where
      which : (l : ℕ) → (eqb l r.label ≡ true) ⊎ (elem l ls ≡ true) → (j : ℕ) × (q : Row) × Q j q × HasRow t (label_at_line fs j) q × (q.label ≡ l)
      which l (inl e) = (k, r, qk, h, sym (eqb-true l r.label e))
      which l (inr e) = let x = s.seen l e in (x.0, x.1, to x.0 x.1 x.2, x.3, x.4)

      here : (b : Bool) (l : ℕ) → b ≡ true → b || elem l ls ≡ true
      here true l e = refl
      here false l e = no-absurd e refl

      there : (b : Bool) (l : ℕ) → elem l ls ≡ true → b || elem l ls ≡ true
      there true l e = refl
      there false l e = e

      sees-one : (j : ℕ) (q : Row) → HasRow t (label_at_line fs j) q → P j q ⊎ (j ≡ k) → eqb q.label r.label || elem q.label ls ≡ true
      sees-one j q y (inl p) = there (eqb q.label r.label) q.label (s.sees j q p y)
      sees-one j q y (inr e) =
          let same : q ≡ r = one-row t (label_at_line fs k) q r (subst (λ (i : ℕ). HasRow t (label_at_line fs i) q) e y) h in
          here (eqb q.label r.label) q.label (eq-eqb _ _ (ap (λ (x : Row). x.label) same))

  -- ---- what the state after k lines is

  abbrev pub TopBefore : ℕ → ℕ → Row → Type 0
  TopBefore k j r = (j < k) × (r.under ≡ set_level)

  abbrev pub Between : ℕ → ℕ → ℕ → Row → Type 0
  Between h k j r = (h < j) × (j < k)

  -- line h is at set level, every line after it and before k is its member, and a member may follow
  pub record OpenAt (h k : ℕ) (st : State) : Type 0 where
    pub before : h < k
    pub header_is : st.header ≡ label_at_line fs h
    pub line-is : st.line ≡ h
    pub top-level : AtSetLevel t (label_at_line fs h)
    pub members-all : (j : ℕ) → h < j → j < k → MemberOf t (label_at_line fs h) (label_at_line fs j)
    pub members-seen : Seen (Between h k) st.members

  -- a line is open, or none: before the first line, and after an odd label
  pub data Opened (k : ℕ) (st : State) : Type 0 where
    open_at : (h : ℕ) → OpenAt h k st → Opened k st
    at-start : k ≡ 0 → st.header ≡ no_header → Opened k st
    behind-odd : (j : ℕ) → k ≡ suc j → IsOdd (label_at_line fs j) → st.header ≡ no_header → Opened k st

  pub record Behind (k : ℕ) (st : State) : Type 0 where
    pub top_seen : Seen (TopBefore k) st.top
    pub opened-is : Opened k st

  pub behind-first : Behind 0 first
  behind-first = record { top_seen = seen_none (TopBefore 0) (λ j r p. omega arith); opened-is = at-start refl refl }

  -- ---- how a line stands in a state, if it is neither unknown nor stray

  pub data Stands (k : ℕ) (st : State) : Type 0 where
    at-set-level : (r : Row) → HasRow t (label_at_line fs k) r → r.under ≡ set_level → Stands k st
    in-open : (r : Row) → HasRow t (label_at_line fs k) r → (r.under ≡ 8410) ⊎ (r.under ≡ 6302) → st.header ≡ r.under → Stands k st
    behind-name : (r : Row) → HasRow t (label_at_line fs k) r → r.under ≡ 6330 → st.header + 1 ≡ label_at_line fs k → Stands k st

  pub role-top : (k : ℕ) (st : State) (r : Row) → HasRow t (label_at_line fs k) r → r.under ≡ set_level → role_behind st k ≡ at_set_level r
  unfolding role role_of
  role-top k st r h e = rw (h, eq-eqb r.under 0 e) refl

  pub role-open : (k : ℕ) (st : State) (r : Row) → HasRow t (label_at_line fs k) r → (r.under ≡ 8410) ⊎ (r.under ≡ 6302) → st.header ≡ r.under → role_behind st k ≡ member r
  unfolding role role_of belongs
  role-open k st r h u e = rw (h, not-0 r.under u, not-6330 r.under u, eq-eqb r.under st.header (sym e)) refl

  pub role-odd : (k : ℕ) (st : State) (r : Row) → HasRow t (label_at_line fs k) r → r.under ≡ 6330 → st.header + 1 ≡ label_at_line fs k → role_behind st k ≡ member r
  unfolding role role_of belongs
  role-odd k st r h u e =
      rw (h, ne_eqb r.under 0 (λ q. omega arith), eq-eqb r.under 6330 u, eq-eqb (st.header + 1) (label_at_line fs k) e) refl

  -- ---- the step

  -- a member adds nothing at set level
  top_kept : (k : ℕ) (ls : List ℕ) (r : Row) → HasRow t (label_at_line fs k) r → (r.under ≡ set_level → ⊥) → Seen (TopBefore k) ls → Seen (TopBefore (suc k)) ls
  top_kept k ls r h n s = seen_same (TopBefore k) (TopBefore (suc k)) ls (λ j q p. (omega arith, p.1)) (λ j q y p. (other j q y p, p.1)) s
    where
      other : (j : ℕ) (q : Row) → HasRow t (label_at_line fs j) q → TopBefore (suc k) j q → j < k
      other j q y p = go (le-cases j k (omega arith))
        where
          go : (j < k) ⊎ (j ≡ k) → j < k
          go (inl x) = x
          go (inr e) =
              let same : q ≡ r = one-row t (label_at_line fs k) q r (subst (λ (i : ℕ). HasRow t (label_at_line fs i) q) e y) h in
              absurd (n (subst (λ (x : Row). x.under ≡ 0) same p.1))

  -- ---- a line at set level opens, and a member leaves open what is open

  pub open-next-top : (k : ℕ) (st : State) (r : Row) → HasRow t (label_at_line fs k) r → r.under ≡ set_level
      → OpenAt k (suc k) (next (role_behind st k) st k (label_at_line fs k))
  unfolding next
  open-next-top k st r h u = rw (role-top k st r h u) (record {
    before = omega arith;
    header_is = refl;
    line-is = refl;
    top-level = (r, h, u);
    members-all = λ j p q. absurd (omega arith);
    members-seen = seen_none (Between k (suc k)) (λ j q p. omega arith);
  })

  module _ (k : ℕ) (st : State) (r : Row) (h : HasRow t (label_at_line fs k) r) (u : (r.under ≡ 8410) ⊎ (r.under ≡ 6302)) (e : st.header ≡ r.under) where
    pub open-next-member : (i : ℕ) → OpenAt i k st → OpenAt i (suc k) (next (role_behind st k) st k (label_at_line fs k))
    unfolding next
    open-next-member i o = rw (role-open k st r h u e) (record {
      before = omega (arith, o.before);
      header_is = rw (member-no-pair t (label_at_line fs k) r h u) o.header_is;
      line-is = o.line-is;
      top-level = o.top-level;
      members-all = λ j p q. one-more j p (le-cases j k (omega arith));
      members-seen = seen_more (Between i k) (Between i (suc k)) st.members k r h (o.before, omega arith) (λ j q p. (p.0, omega arith))
          (λ j q p. split j q p (le-cases j k (omega arith))) o.members-seen;
    })
      where
        under-open : r.under ≡ label_at_line fs i
        under-open = sym e ∙ o.header_is

        this : MemberOf t (label_at_line fs i) (label_at_line fs k)
        this = (subst (λ (x : ℕ). (x ≡ 8410) ⊎ (x ≡ 6302)) under-open u, r, h, under-open)

        one-more : (j : ℕ) → i < j → (j < k) ⊎ (j ≡ k) → MemberOf t (label_at_line fs i) (label_at_line fs j)
        one-more j p (inl q) = o.members-all j p q
        one-more j p (inr q) = subst (λ (x : ℕ). MemberOf t (label_at_line fs i) (label_at_line fs x)) (sym q) this

        split : (j : ℕ) (q : Row) → Between i (suc k) j q → (j < k) ⊎ (j ≡ k) → Between i k j q ⊎ (j ≡ k)
        split j q p (inl x) = inl (p.0, x)
        split j q p (inr x) = inr x

    opened-next : Opened k st → Opened (suc k) (next (role_behind st k) st k (label_at_line fs k))
    opened-next (open_at i o) = open_at i (open-next-member i o)
    opened-next (at-start p q) = no-absurd (eq-eqb r.under 0 (sym e ∙ q)) (not-0 r.under u)
    opened-next (behind-odd j p o q) = no-absurd (eq-eqb r.under 0 (sym e ∙ q)) (not-0 r.under u)

  -- what is seen at set level after one line more
  top-next : (k : ℕ) (st : State) → Behind k st → Stands k st → Seen (TopBefore (suc k)) (next (role_behind st k) st k (label_at_line fs k)).top
  unfolding next
  top-next k st b (at-set-level r h u) = rw (role-top k st r h u) (
      seen_more (TopBefore k) (TopBefore (suc k)) st.top k r h (omega arith, u) (λ j q p. (omega arith, p.1)) split b.top_seen)
    where
      which : (j : ℕ) (q : Row) → TopBefore (suc k) j q → (j < k) ⊎ (j ≡ k) → TopBefore k j q ⊎ (j ≡ k)
      which j q p (inl x) = inl (x, p.1)
      which j q p (inr x) = inr x

      split : (j : ℕ) (q : Row) → TopBefore (suc k) j q → TopBefore k j q ⊎ (j ≡ k)
      split j q p = which j q p (le-cases j k (omega arith))
  top-next k st b (in-open r h u e) = rw (role-open k st r h u e) (
      top_kept k st.top r h (λ q. no-absurd (eq-eqb r.under 0 q) (not-0 r.under u)) b.top_seen)
  top-next k st b (behind-name r h u e) = rw (role-odd k st r h u e) (top_kept k st.top r h (λ q. omega arith) b.top_seen)

  -- an odd label closes its pair
  odd-next : (k : ℕ) (st : State) (r : Row) → HasRow t (label_at_line fs k) r → r.under ≡ 6330 → st.header + 1 ≡ label_at_line fs k
      → Opened (suc k) (next (role_behind st k) st k (label_at_line fs k))
  unfolding next
  odd-next k st r h u e =
      let o : IsOdd (label_at_line fs k) = odd-row-odd t (label_at_line fs k) r h u in
      rw (role-odd k st r h u e) (behind-odd k refl o (rw (odd-is-pair (label_at_line fs k) o) refl))

  -- the step from line to line
  pub behind-next : (k : ℕ) (st : State) → Behind k st → Stands k st → Behind (suc k) (next (role_behind st k) st k (label_at_line fs k))
  behind-next k st b s = record { top_seen = top-next k st b s; opened-is = go s }
    where
      go : Stands k st → Opened (suc k) (next (role_behind st k) st k (label_at_line fs k))
      go (at-set-level r h u) = open_at k (open-next-top k st r h u)
      go (in-open r h u e) = opened-next k st r h u e b.opened-is
      go (behind-name r h u e) = odd-next k st r h u e
