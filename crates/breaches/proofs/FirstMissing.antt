-- 16: the first lack that is given is a required label that is absent, and none comes before it: set level, then groups and names by their line, then by label.
use mathlib.Core.Path.{◌≡◌, refl, sym, ap, ◌∙◌, subst}
use mathlib.Core.Bool.{Bool, true, false, cond, not, ◌&&◌, true≢false}
use mathlib.Core.List.{List, [], ◌∷◌, ◌++◌, cons≢nil}
use mathlib.Core.Logic.{◌⊎◌, inl, inr, ◌≢◌}
use Prim.Native.Nat.{ℕ, zero, suc, ◌+◌, ◌≤◌, ◌<◌}
use native.Mathlib.Omega.{arith}
use lib.Dec.{leb}
use lib.ListN.{length, drop}
use borrow.Author.Tests.{leb-true, leb-false, eq-eqb}
use Rattle.meaning.specs.declared.Row.{Row}
use Rattle.meaning.specs.declared.SetType.{SetType}
use Rattle.meaning.specs.Field.{Field, labels, label_at_line, elem}
use Rattle.meaning.specs.Refusals.{Fault, at_line, ask, missing}
use Rattle.meaning.specs.Tables.{set_level, is_pair_label, row_label, table}
use Rattle.meaning.specs.Groups.{State, first, no_header, stays}
use Rattle.meaning.specs.Missing.{needed, rows_under, insert, ascending, missing_label, lacking_of, lacking, among, open_lacking, groups_lacking}
use Rattle.meaning.proofs.Bools.{Every}
use Rattle.keeps.specs.Keeps.{HasRow, AtSetLevel, Required, MemberOf, IsName, GroupHas, SetComplete}
use Rattle.keeps.proofs.TableFacts.{Paired, inside, below, above, paired, no-absurd, label_of, name_of, Regular, row-regular, row-label, one-row, not-name-row, not-odd-row, every-row, row-every}
use Rattle.keeps.proofs.StateLaws.{state_at, OpenAt, Opened, open_at, at-start, behind-odd, Stands, at-set-level, in-open, behind-name, role-top, role-open, role-odd}
use Rattle.keeps.proofs.LabelLaws.{LabelFine, alone, member-plain, all-stand, all-behind}
use Rattle.keeps.proofs.LackLaws.{Met, HasValue, needed-required, needed-8421, needed-8437, Why, by_row, by_value, by-8438, why, into, sorted}
use Rattle.keeps.proofs.LackLaws.{unsorted, chosen, unchosen, conditional-label, lack_at, step-lack, end-lack, header-there, header-row-label, ClearTo}
use Rattle.keeps.proofs.LackLaws.{set-has, groups-have, values-have-units, has-8437-with-8438, names-have-odds, group-before, seen-group, value-group}
use Rattle.keeps.proofs.LackLaws.{name-open}
use Rattle.breaches.specs.Breaches.{RequiredIn, always, with_value, with-8438, MissingBreach, of-set, of-group, of-name, missing_rank, Rank, rank, Before}
use Rattle.breaches.proofs.FirstLine.{same_head, head-append, none-to-next}

-- ---- rows in the order of their labels

abbrev Sorted : List Row → Type 0
Sorted [] = Unit
Sorted (x ∷ xs) = Every (λ q. x.label ≤ q.label) xs × Sorted xs

weaken : (a b : ℕ) (xs : List Row) → a ≤ b → Every (λ q. b ≤ q.label) xs → Every (λ q. a ≤ q.label) xs
weaken a b [] l h = tt
weaken a b (x ∷ xs) l h = (omega (arith, h.0), weaken a b xs l h.1)

sorted_insert : (r : Row) (xs : List Row) → Sorted xs → Sorted (insert r xs)
unfolding insert
sorted_insert r [] h = (tt, tt)
sorted_insert r (x ∷ xs) h = go (leb r.label x.label) refl (sorted_insert r xs h.1)
  where
    go : (b : Bool) → leb r.label x.label ≡ b → Sorted (insert r xs) → Sorted (cond b (r ∷ x ∷ xs) (x ∷ insert r xs))
    go true p i = ((leb-true _ _ p, weaken r.label x.label xs (leb-true _ _ p) h.0), h)
    go false p i = (into (λ q. x.label ≤ q.label) r xs (omega (arith, leb-false r.label x.label p)) h.0, i)

ascending-sorted : (xs : List Row) → Sorted (ascending xs)
unfolding ascending
ascending-sorted [] = tt
ascending-sorted (x ∷ xs) = sorted_insert x (ascending xs) (ascending-sorted xs)

-- ---- the first row that is lacking

record RowLack (P : Row → Type 0) (xs : List Row) (h k : ℕ) (has : ℕ → Bool) (x : Fault) : Type 0 where
  its-row : Row
  so : P its-row
  is : x ≡ at_line missing k (missing_label h its-row.label)
  is-needed : needed its-row has ≡ true
  absent : has its-row.label ≡ false
  smaller-met : Every (λ q. q.label < its-row.label → Met has q) xs

lack-so : (a b : Bool) → not (a && not b) ≡ false → (a ≡ true) × (b ≡ false)
lack-so true true e = absurd (true≢false e)
lack-so true false e = (refl, refl)
lack-so false b e = absurd (true≢false e)

met-so : (a b : Bool) → not (a && not b) ≡ true → a ≡ true → b ≡ true
met-so true true e p = refl
met-so true false e p = e
met-so false b e p = absurd (true≢false (sym p))

none-smaller : (a : ℕ) (has : ℕ → Bool) (xs : List Row) → Every (λ q. a ≤ q.label) xs → Every (λ q. q.label < a → Met has q) xs
none-smaller a has [] h = tt
none-smaller a has (x ∷ xs) h = (λ l. absurd (omega (arith, h.0)), none-smaller a has xs h.1)

-- Row by row, in the order of labels: the first row that is lacking is the one; those before it are met, and no label after it is smaller.
row-lack : (P : Row → Type 0) (xs : List Row) (h k : ℕ) (has : ℕ → Bool) (x : Fault) (ys : List Fault) → Every P xs → Sorted xs → lacking_of xs h k has ≡ x ∷ ys
    → RowLack P xs h k has x
unfolding lacking_of
row-lack P [] h k has x ys p s e = absurd (cons≢nil (sym e))
row-lack P (r ∷ rs) h k has x ys p s e = go (row-lack P rs h k has x ys p.1 s.1) (not (needed r has && not (has r.label))) refl e
  where
    go : (lacking_of rs h k has ≡ x ∷ ys → RowLack P rs h k has x) → (b : Bool) → not (needed r has && not (has r.label)) ≡ b
        → ask b (at_line missing k (missing_label h r.label)) ++ lacking_of rs h k has ≡ x ∷ ys → RowLack P (r ∷ rs) h k has x
    go ih false q z =
        let l = lack-so (needed r has) (has r.label) q in
        record {
          its-row = r;
          so = p.0;
          is = sym (same_head z);
          is-needed = l.0;
          absent = l.1;
          smaller-met = (λ m. absurd (omega arith), none-smaller r.label has rs s.0);
        }
    go ih true q z =
        let i = ih z in
        record {
          its-row = i.its-row;
          so = i.so;
          is = i.is;
          is-needed = i.is-needed;
          absent = i.absent;
          smaller-met = (λ m. met-so (needed r has) (has r.label) q, i.smaller-met);
        }

-- the first row of a table that is lacking under h
record TableLack (t : SetType) (h k : ℕ) (has : ℕ → Bool) (x : Fault) : Type 0 where
  its-row : Row
  in_table : HasRow t its-row.label its-row
  under-it : its-row.under ≡ row_label h
  is : x ≡ at_line missing k (missing_label h its-row.label)
  is-needed : needed its-row has ≡ true
  absent : has its-row.label ≡ false
  smaller-met : (l : ℕ) (q : Row) → HasRow t l q → q.under ≡ row_label h → q.label < its-row.label → Met has q

table-lack : (t : SetType) (h k : ℕ) (has : ℕ → Bool) (x : Fault) (ys : List Fault) → lacking (table t) h k has ≡ x ∷ ys → TableLack t h k has x
unfolding lacking
table-lack t h k has x ys e =
    let all : Every (λ r. HasRow t r.label r × (r.under ≡ row_label h)) (ascending (rows_under (table t) h)) =
    sorted (λ r. HasRow t r.label r × (r.under ≡ row_label h)) (rows_under (table t) h)
    (chosen (λ r. HasRow t r.label r × (r.under ≡ row_label h)) (table t) h
    (every-row (λ q. q.under ≡ row_label h → HasRow t q.label q × (q.under ≡ row_label h)) t (λ r a u. (a, u)))) in
    let f = row-lack (λ r. HasRow t r.label r × (r.under ≡ row_label h)) (ascending (rows_under (table t) h)) h k has x ys all (ascending-sorted (rows_under (table t) h)) e in
    record {
      its-row = f.its-row;
      in_table = f.so.0;
      under-it = f.so.1;
      is = f.is;
      is-needed = f.is-needed;
      absent = f.absent;
      smaller-met = λ l q a u m. row-every (λ y. y.under ≡ row_label h → y.label < f.its-row.label → Met has y) t l q a
          (unchosen (λ y. y.label < f.its-row.label → Met has y) (table t) h
          (unsorted (λ y. y.label < f.its-row.label → Met has y) (rows_under (table t) h) f.smaller-met)) u m;
    }

-- a name lacks the label one higher
name-missing : (l m : ℕ) → IsName l → missing_label l m ≡ suc l
unfolding missing_label
name-missing l m n = go (paired l)
  where
    go : Paired l → cond (is_pair_label l) (l + 1) m ≡ suc l
    go (inside a b c d) = rw c (omega arith)
    go (below a c d) = absurd (omega (arith, n.0))
    go (above a c d) = absurd (omega (arith, n.1))

-- ---- ranks

-- what comes before a lack at set level, and before one of line h
before-set : (a : ℕ) (r : Rank) → r.stage ≡ 4 → Before r (rank 4 0 a 0) → (r.line ≡ 0) × ((r.part < a) ⊎ ((r.part ≡ a) × (r.byte < 0)))
before-set a r e (inl x) = absurd (omega arith)
before-set a r e (inr (f, inl x)) = absurd (omega arith)
before-set a r e (inr (f, inr (g, x))) = (g, x)

before-group : (h a : ℕ) (r : Rank) → r.stage ≡ 4 → Before r (rank 4 (suc h) a 0) → (r.line < suc h) ⊎ ((r.line ≡ suc h) × ((r.part < a) ⊎ ((r.part ≡ a) × (r.byte < 0))))
before-group h a r e (inl x) = absurd (omega arith)
before-group h a r e (inr (f, inl x)) = inl x
before-group h a r e (inr (f, inr (g, x))) = inr (g, x)

part-less : (p a b : ℕ) → (p < a) ⊎ ((p ≡ a) × (b < 0)) → p < a
part-less p a b (inl x) = x
part-less p a b (inr x) = absurd (omega (arith, x.1))

module _ (t : SetType) (fs : List Field) (fine : (k : ℕ) → k < length fs → LabelFine t fs k (state_at t fs k)) where
  -- the first lack: of the set, or of a line h
  pub data MissingFirst (x : Fault) : Type 0 where
    in-set : (l : ℕ) (a : AtSetLevel t l) (q : Required t l) (n : (k : ℕ) → k < length fs → label_at_line fs k ≢ l) → x ≡ at_line missing 0 l
        → ((b : MissingBreach t fs) → Before (missing_rank b) (rank 4 0 l 0) → ⊥) → MissingFirst x
    in_group : (h l : ℕ) (i : h < length fs) (m : MemberOf t (label_at_line fs h) l) (q : RequiredIn t fs h l) (n : GroupHas t fs h l → ⊥) → x ≡ at_line missing h l
        → ((b : MissingBreach t fs) → Before (missing_rank b) (rank 4 (suc h) l 0) → ⊥) → MissingFirst x
    in-name : (k : ℕ) (i : k < length fs) (m : IsName (label_at_line fs k)) (n : label_at_line fs (suc k) ≢ suc (label_at_line fs k)) → x ≡ at_line missing k (suc (label_at_line fs k))
        → ((b : MissingBreach t fs) → Before (missing_rank b) (rank 4 (suc k) (suc (label_at_line fs k)) 0) → ⊥) → MissingFirst x

  -- ---- at set level

  -- a required row at set level is that of one label
  required-alone : (l : ℕ) (r : Row) → HasRow t l r → r.under ≡ set_level → r.required ≡ true → (r.label ≡ 6330 → ⊥) × (r.label ≡ 6331 → ⊥)
  required-alone l r h u q =
      let g : Regular r = row-regular t l r h in
      (λ e. no-absurd q (g.name-optional e), λ e. omega (arith, g.under-name e))

  -- The first row that is lacking gives the label. It is required by its row, since no label at set level has a condition; smaller labels that are required were seen.
  set_first : (x : Fault) (ys : List Fault) → lacking (table t) set_level 0 (among (state_at t fs (length fs)).top) ≡ x ∷ ys → MissingFirst x
  unfolding row_label missing_label
  set_first x ys e = in-set r.label (r, f.in_table, f.under-it) (r, f.in_table, req) absent-so f.is before
    where
      top : List ℕ
      top = (state_at t fs (length fs)).top

      f : TableLack t set_level 0 (among (state_at t fs (length fs)).top) x
      f = table-lack t set_level 0 (among (state_at t fs (length fs)).top) x ys e

      r : Row
      r = f.its-row

      req : r.required ≡ true
      req = go (why r _ f.is-needed)
        where
          no-condition : (r.label ≡ 8421) ⊎ (r.label ≡ 8437) → ⊥
          no-condition c = omega (arith, (row-regular t _ r f.in_table).conditional-member (conditional-label r.label c), f.under-it)

          go : Why r (among top) → r.required ≡ true
          go (by_row q) = q
          go (by_value q v) = absurd (no-condition (inl q))
          go (by-8438 q v) = absurd (no-condition (inr q))

      absent-so : (k : ℕ) → k < length fs → label_at_line fs k ≢ r.label
      absent-so k l q =
          no-absurd ((all-behind t fs fine (length fs) (omega arith)).top_seen.sees k r (l, f.under-it) (subst (λ (y : ℕ). HasRow t y r) (sym q) f.in_table)) f.absent

      earlier : (l : ℕ) → AtSetLevel t l → Required t l → ((k : ℕ) → k < length fs → label_at_line fs k ≢ l) → l < r.label → ⊥
      earlier l a q n less =
          let y : Row = a.0 in
          let z : y.required ≡ true = ap (λ (w : Row). w.required) (one-row t l y q.0 a.1 q.1) ∙ q.2 in
          let o = required-alone l y a.1 a.2 z in
          let c : l ≡ y.label = label_of l y.label (sym (row-label t l y a.1)) o.0 o.1 in
          let m : elem y.label top ≡ true = f.smaller-met l y a.1 a.2 (omega arith) (needed-required y _ z) in
          let s = (all-behind t fs fine (length fs) (omega arith)).top_seen.seen y.label m in
          n s.0 s.2.0 (alone t l y s.1 (label_at_line fs s.0) a.1 s.3 s.4 o.0 o.1)

      before : (b : MissingBreach t fs) → Before (missing_rank b) (rank 4 0 r.label 0) → ⊥
      before (of-set l a q n) z = earlier l a q n (part-less l r.label 0 (before-set r.label (rank 4 0 l 0) refl z).1)
      before (of-group h l i m q n) z = let w : suc h ≡ 0 = (before-set r.label (rank 4 (suc h) l 0) refl z).0 in omega arith
      before (of-name k i m n) z = let w : suc k ≡ 0 = (before-set r.label (rank 4 (suc k) (suc (label_at_line fs k)) 0) refl z).0 in omega arith

  -- ---- in groups and after names

  record FirstEnd (x : Fault) : Type 0 where
    ends_at : ℕ
    within : ends_at ≤ length fs
    ended : (ends_at ≡ length fs) ⊎ AtSetLevel t (label_at_line fs ends_at)
    clear : (j : ℕ) → j < ends_at → lack_at t fs j ≡ []
    others : List Fault
    its-lack : open_lacking (table t) (state_at t fs ends_at) ≡ x ∷ others

  -- a line that finds a lack is at set level
  lack-top : (k : ℕ) (x : Fault) (ys : List Fault) → k < length fs → lack_at t fs k ≡ x ∷ ys → AtSetLevel t (label_at_line fs k) × (open_lacking (table t) (state_at t fs k) ≡ x ∷ ys)
  unfolding stays
  lack-top k x ys l e = go (all-stand t fs fine k l)
    where
      st : State
      st = state_at t fs k

      go : Stands t fs k st → AtSetLevel t (label_at_line fs k) × (open_lacking (table t) (state_at t fs k) ≡ x ∷ ys)
      go (at-set-level r h u) = ((r, h, u), rw (role-top t fs k st r h u) at e)
      go (in-open r h u o) = absurd (cons≢nil (sym (rw (role-open t fs k st r h u o) at e)))
      go (behind-name r h u o) = absurd (cons≢nil (sym (rw (role-odd t fs k st r h u o) at e)))

  -- Line by line from line i on: the group ends at the first line that finds a lack, or at the end of the set.
  end-from : (n i : ℕ) (x : Fault) (xs : List Fault) → i + n ≡ length fs → ((j : ℕ) → j < i → lack_at t fs j ≡ [])
      → groups_lacking (table t) (state_at t fs i) i (drop i (labels fs)) ≡ x ∷ xs → FirstEnd x
  end-from zero i x xs e h q = record {
    ends_at = i;
    within = omega arith;
    ended = inl (omega arith);
    clear = h;
    others = xs;
    its-lack = sym (end-lack t fs i (omega arith)) ∙ q;
  }
  end-from (suc n) i x xs e h q = go (end-from n (suc i) x xs (omega arith)) (head-append (lack_at t fs i) _ x xs (sym (step-lack t fs i (omega arith)) ∙ q))
    where
      go : (((j : ℕ) → j < suc i → lack_at t fs j ≡ []) → groups_lacking (table t) (state_at t fs (suc i)) (suc i) (drop (suc i) (labels fs)) ≡ x ∷ xs → FirstEnd x)
          → ((ys : List Fault) × (lack_at t fs i ≡ x ∷ ys))
          ⊎ ((lack_at t fs i ≡ []) × (groups_lacking (table t) (state_at t fs (suc i)) (suc i) (drop (suc i) (labels fs)) ≡ x ∷ xs)) → FirstEnd x
      go ih (inl p) =
          let y = lack-top i x p.0 (omega arith) p.1 in
          record { ends_at = i; within = omega arith; ended = inr y.0; clear = h; others = p.0; its-lack = y.1 }
      go ih (inr p) = ih (none-to-next (lack_at t fs) i h p.0) p.1

  first-end : (x : Fault) (xs : List Fault) → groups_lacking (table t) first 0 (labels fs) ≡ x ∷ xs → FirstEnd x
  unfolding state_at
  first-end x xs e = end-from (length fs) 0 x xs (omega arith) (λ j l. absurd (omega arith)) e

  module _ (complete : SetComplete t fs) (x : Fault) (e : FirstEnd x) (h : ℕ) (o : OpenAt t fs h e.ends_at (state_at t fs e.ends_at)) where
    abbrev k : ℕ
    k = e.ends_at

    abbrev st : State
    st = state_at t fs e.ends_at

    header-line : h < length fs
    header-line = omega (arith, o.before, e.within)

    the-lack : TableLack t (label_at_line fs h) h (among st.members) x
    unfolding open_lacking
    the-lack =
        let l : lacking (table t) st.header st.line (among st.members) ≡ x ∷ e.others = rw (header-there t fs h k st o) at e.its-lack in
        table-lack t (label_at_line fs h) h (among st.members) x e.others
        (subst (λ (y : ℕ). lacking (table t) (label_at_line fs h) y (among st.members) ≡ x ∷ e.others) o.line-is
        (subst (λ (y : ℕ). lacking (table t) y st.line (among st.members) ≡ x ∷ e.others) o.header_is l))

    -- before line h nothing is lacking
    clear-to : ClearTo t fs h
    unfolding stays
    clear-to = record {
      within = omega (arith, header-line);
      ended = inr o.top-level;
      at_each = λ j l p. e.clear j (omega (arith, o.before));
      at_last = rw (role-top t fs h (state_at t fs h) o.top-level.0 o.top-level.1 o.top-level.2) at (e.clear h o.before);
    }

    earlier-group : (i l : ℕ) → i < h → MemberOf t (label_at_line fs i) l → RequiredIn t fs i l → (GroupHas t fs i l → ⊥) → ⊥
    earlier-group i l p m (always q) n = n (groups-have t fs fine h clear-to i l p m q)
    earlier-group i l p m (with_value q v) n = n (subst (λ (y : ℕ). GroupHas t fs i y) (sym q) (values-have-units t fs fine h clear-to i p v))
    earlier-group i l p m (with-8438 q v) n = n (subst (λ (y : ℕ). GroupHas t fs i y) (sym q) (has-8437-with-8438 t fs fine h clear-to i p v))

    -- nothing comes before label l of line h but a smaller label of line h: the set, and the groups and names before h, lack nothing
    before-line : (l : ℕ) (own-group : (j : ℕ) → MemberOf t (label_at_line fs h) j → RequiredIn t fs h j → (GroupHas t fs h j → ⊥) → j < l → ⊥)
        (own_name : IsName (label_at_line fs h) → suc (label_at_line fs h) < l → ⊥) (b : MissingBreach t fs) → Before (missing_rank b) (rank 4 (suc h) l 0) → ⊥
    before-line l g n (of-set j a q c) z = let w = complete j a q in c w.0 w.1 w.2
    before-line l g n (of-group i j p m q c) z = go (before-group h l (rank 4 (suc i) j 0) refl z)
      where
        go : (suc i < suc h) ⊎ ((suc i ≡ suc h) × ((j < l) ⊎ ((j ≡ l) × (0 < 0)))) → ⊥
        go (inl w) = earlier-group i j (omega arith) m q c
        go (inr w) = own (omega (arith, w.0)) (part-less j l 0 w.1)
          where
            own : i ≡ h → j < l → ⊥
            own u v =
                g j (subst (λ (y : ℕ). MemberOf t (label_at_line fs y) j) u m) (subst (λ (y : ℕ). RequiredIn t fs y j) u q)
                (λ y. c (subst (λ (a : ℕ). GroupHas t fs a j) (sym u) y)) v
    before-line l g n (of-name i p m c) z = go (before-group h l (rank 4 (suc i) (suc (label_at_line fs i)) 0) refl z)
      where
        go : (suc i < suc h) ⊎ ((suc i ≡ suc h) × ((suc (label_at_line fs i) < l) ⊎ ((suc (label_at_line fs i) ≡ l) × (0 < 0)))) → ⊥
        go (inl w) = c (names-have-odds t fs fine h clear-to i (omega arith) m)
        go (inr w) = own (omega (arith, w.0)) (part-less (suc (label_at_line fs i)) l 0 w.1)
          where
            own : i ≡ h → suc (label_at_line fs i) < l → ⊥
            own u v = n (subst (λ (y : ℕ). IsName (label_at_line fs y)) u m) (subst (λ (y : ℕ). suc (label_at_line fs y) < l) u v)

    -- the row that is lacking, and its header
    r : Row
    r = the-lack.its-row

    no-name-header : (l : ℕ) → (l ≡ 8410) ⊎ (l ≡ 6302) → IsName l → ⊥
    no-name-header l (inl p) n = omega (arith, n.0, n.1)
    no-name-header l (inr p) n = omega (arith, n.0, n.1)

    has_of : (l : ℕ) → GroupHas t fs h l → (y : Row) → HasRow t l y → y.label ≡ l → elem l st.members ≡ true
    has_of l g y a q =
        subst (λ (z : ℕ). elem z st.members ≡ true) q
        (o.members-seen.sees g.0 y (g.1.behind, group-before t fs k e.within e.ended h o g.0 g.1) (subst (λ (z : ℕ). HasRow t z y) (sym g.2) a))

    -- in a group
    module _ (u : (label_at_line fs h ≡ 8410) ⊎ (label_at_line fs h ≡ 6302)) where
      member-label : (l : ℕ) (m : MemberOf t (label_at_line fs h) l) → (m.1.label ≡ l) × ((l ≡ 6330 → ⊥) × (l ≡ 6331 → ⊥))
      member-label l m = go (paired l)
        where
          go : Paired l → (m.1.label ≡ l) × ((l ≡ 6330 → ⊥) × (l ≡ 6331 → ⊥))
          go (inside a b c d) = no-absurd c (member-plain t _ _ m)
          go (below a c d) = (row-label t l m.1 m.2 ∙ d, (λ q. omega arith, λ q. omega arith))
          go (above a c d) = (row-label t l m.1 m.2 ∙ d, (λ q. omega arith, λ q. omega arith))

      -- what stands in the group was seen in it
      there-seen : (l : ℕ) → GroupHas t fs h l → elem l st.members ≡ true
      there-seen l g =
          let m = subst (λ (y : ℕ). MemberOf t (label_at_line fs h) y) g.2 (g.1.all-members g.0 g.1.behind (omega arith)) in
          has_of l g m.1 m.2 (member-label l m).0

      value-seen : GroupHas t fs h 8420 ⊎ (GroupHas t fs h 8461 ⊎ GroupHas t fs h 8462) → HasValue (among st.members)
      value-seen (inl g) = inl (there-seen 8420 g)
      value-seen (inr (inl g)) = inr (inl (there-seen 8461 g))
      value-seen (inr (inr g)) = inr (inr (there-seen 8462 g))

      needed-so : (l : ℕ) (m : MemberOf t (label_at_line fs h) l) → RequiredIn t fs h l → needed m.1 (among st.members) ≡ true
      needed-so l m (always q) = needed-required m.1 _ (ap (λ (y : Row). y.required) (one-row t l m.1 q.0 m.2 q.1) ∙ q.2)
      needed-so l m (with_value q v) = needed-8421 m.1 _ ((member-label l m).0 ∙ q) (value-seen v)
      needed-so l m (with-8438 q v) = needed-8437 m.1 _ ((member-label l m).0 ∙ q) (there-seen 8438 v)

      -- its smaller members are there
      smaller-there : (l : ℕ) → MemberOf t (label_at_line fs h) l → RequiredIn t fs h l → (GroupHas t fs h l → ⊥) → l < r.label → ⊥
      unfolding r
      smaller-there l m q n less =
          let c = member-label l m in
          let has : elem m.1.label st.members ≡ true =
          the-lack.smaller-met l m.1 m.2 (m.3 ∙ sym (header-row-label t fs _ u)) (omega (arith, c.0)) (needed-so l m q) in
          n (seen-group t fs k e.within e.ended h o l c.1.0 c.1.1 (subst (λ (y : ℕ). elem y st.members ≡ true) c.0 has))

      member-row : MemberOf t (label_at_line fs h) r.label
      unfolding r
      member-row = (u, the-lack.its-row, the-lack.in_table, the-lack.under-it ∙ header-row-label t fs _ u)

      required-so : Why r (among st.members) → RequiredIn t fs h r.label
      unfolding r
      required-so (by_row q) = always (the-lack.its-row, the-lack.in_table, q)
      required-so (by_value q v) = with_value q (value-group t fs k e.within e.ended h o v)
      required-so (by-8438 q v) = with-8438 q (seen-group t fs k e.within e.ended h o 8438 (λ z. omega arith) (λ z. omega arith) v)

      header-no-pair : (l : ℕ) → (l ≡ 8410) ⊎ (l ≡ 6302) → is_pair_label l ≡ false
      header-no-pair l (inl p) = rw p refl
      header-no-pair l (inr p) = rw p refl

      group-first : MissingFirst x
      unfolding r missing_label
      group-first =
          in_group h r.label header-line member-row (required-so (why r _ the-lack.is-needed))
          (λ g. no-absurd (there-seen r.label g) the-lack.absent)
          (the-lack.is ∙ rw (header-no-pair (label_at_line fs h) u) refl)
          (before-line r.label smaller-there (λ n z. no-name-header (label_at_line fs h) u n))

    -- after a name
    name-first : IsName (label_at_line fs h) → MissingFirst x
    name-first n =
        in-name h header-line n (λ q. name-open t fs k e.within e.ended h o n q)
        (the-lack.is ∙ ap (λ (y : ℕ). at_line missing h y) (name-missing (label_at_line fs h) the-lack.its-row.label n))
        (before-line (suc (label_at_line fs h)) (λ j m q c z. no-name-header (label_at_line fs h) m.0 n) (λ m z. omega arith))

    open-first : MissingFirst x
    unfolding r
    open-first = by_level (row-regular t _ the-lack.its-row the-lack.in_table).level
      where
        by_level : (r.under ≡ set_level) ⊎ (((r.under ≡ 8410) ⊎ (r.under ≡ 6302)) ⊎ (r.under ≡ 6330)) → MissingFirst x
        by_level (inl u) =
            absurd ((row-regular t _ o.top-level.0 o.top-level.1).not-zero (row-label t _ o.top-level.0 o.top-level.1 ∙ (sym the-lack.under-it ∙ u)))
        by_level (inr (inl u)) =
            let c : label_at_line fs h ≡ r.under = label_of (label_at_line fs h) r.under (sym the-lack.under-it) (not-name-row r.under u) (not-odd-row r.under u) in
            group-first (subst (λ (y : ℕ). (y ≡ 8410) ⊎ (y ≡ 6302)) (sym c) u)
        by_level (inr (inr u)) = name-first (name_of (label_at_line fs h) (sym the-lack.under-it ∙ u))

  groups-first : SetComplete t fs → (x : Fault) (xs : List Fault) → groups_lacking (table t) first 0 (labels fs) ≡ x ∷ xs → MissingFirst x
  unfolding open_lacking
  groups-first complete x xs q = go (all-behind t fs fine e.ends_at e.within).opened-is
    where
      e : FirstEnd x
      e = first-end x xs q

      closed : (state_at t fs e.ends_at).header ≡ no_header → MissingFirst x
      closed z = absurd (cons≢nil (sym (rw (eq-eqb (state_at t fs e.ends_at).header 0 z) at e.its-lack)))

      go : Opened t fs e.ends_at (state_at t fs e.ends_at) → MissingFirst x
      go (open_at h o) = open-first complete x e h o
      go (at-start p z) = closed z
      go (behind-odd j p y z) = closed z

  -- the first lack of all
  pub missing-first : (x : Fault) (xs : List Fault)
      → lacking (table t) set_level 0 (among (state_at t fs (length fs)).top) ++ groups_lacking (table t) first 0 (labels fs) ≡ x ∷ xs → MissingFirst x
  missing-first x xs e = go (head-append (lacking (table t) set_level 0 (among (state_at t fs (length fs)).top)) _ x xs e)
    where
      go : ((ys : List Fault) × (lacking (table t) set_level 0 (among (state_at t fs (length fs)).top) ≡ x ∷ ys))
          ⊎ ((lacking (table t) set_level 0 (among (state_at t fs (length fs)).top) ≡ []) × (groups_lacking (table t) first 0 (labels fs) ≡ x ∷ xs)) → MissingFirst x
      go (inl p) = set_first x p.0 p.1
      go (inr p) = groups-first (set-has t fs fine p.0) x xs p.1
