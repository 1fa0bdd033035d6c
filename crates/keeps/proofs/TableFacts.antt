-- What the rows of the five tables have in common, by one computed test over each: which headers there are, how names and odd labels stand, that no label has two rows.
use mathlib.Core.Path.{◌≡◌, refl, sym, ap, ◌∙◌, subst}
use mathlib.Core.Bool.{Bool, true, false, cond, not, ◌&&◌, ◌||◌, true≢false}
use mathlib.Core.List.{List, [], ◌∷◌}
use mathlib.Core.Logic.{◌⊎◌, inl, inr, ◌≢◌}
use mathlib.Core.Option.{some}
use Prim.Native.Nat.{ℕ, zero, suc, ◌+◌, ◌%◌, ◌≤◌, ◌<◌}
use native.Mathlib.Omega.{arith}
use lib.Dec.{leb, eqb}
use borrow.Author.Tests.{leb-true, leb-false, eqb-true, eqb-false, eq-eqb, ne_eqb}
use Rattle.meaning.specs.declared.Row.{Row}
use Rattle.meaning.specs.declared.SetType.{SetType}
use Rattle.meaning.specs.declared.SetType.TheVariants.{T6300, T6301, T6302, T6310, T6311}
use Rattle.meaning.specs.Field.{elem}
use Rattle.meaning.specs.Tables.{set_level, is_pair_label, row_label, rows6300, rows6301, rows6302, rows6310, rows6311, table, find_in, find}
use Rattle.meaning.proofs.Bools.{and_left, and_right, not-true, Every}
use Rattle.meaning.proofs.RowLaws.{all_rows, some_same, none-some, found}
use Rattle.keeps.specs.Keeps.{HasRow, IsName, IsOdd}

-- ---- tests

-- one or the other, and which
pub or_cases : (a b : Bool) → a || b ≡ true → (a ≡ true) ⊎ (b ≡ true)
or_cases true b e = inl refl
or_cases false b e = inr e

-- what is at most k is less than k, or k
pub le-cases : (j k : ℕ) → j ≤ k → (j < k) ⊎ (j ≡ k)
le-cases j k h = go (eqb j k) refl
  where
    go : (b : Bool) → eqb j k ≡ b → (j < k) ⊎ (j ≡ k)
    go true e = inr (eqb-true j k e)
    go false e = inl (omega (arith, eqb-false j k e))

pub lt-or-le : (a b : ℕ) → (a < b) ⊎ (b ≤ a)
lt-or-le a b = go (leb b a) refl
  where
    go : (c : Bool) → leb b a ≡ c → (a < b) ⊎ (b ≤ a)
    go true e = inr (leb-true b a e)
    go false e = inl (leb-false b a e)

-- two numbers that differ are in one order or the other
pub ne_cases : (i j : ℕ) → i ≢ j → (i < j) ⊎ (j < i)
ne_cases i j n = go (leb i j) refl
  where
    go : (b : Bool) → leb i j ≡ b → (i < j) ⊎ (j < i)
    go true e = inl (omega (arith, leb-true i j e, n))
    go false e = inr (leb-false i j e)

abbrev implies : Bool → Bool → Bool
implies a b = not a || b

implied : (a b : Bool) → implies a b ≡ true → a ≡ true → b ≡ true
implied true b e p = e
implied false b e p = absurd (true≢false (sym p))

pub no-absurd : {A : Type 0} {b : Bool} → b ≡ true → b ≡ false → A
no-absurd p q = absurd (true≢false (sym p ∙ q))

-- ---- the label of a label's row

-- the row of a label: for 6330 to 6399 that of 6330 or of 6331, else its own
pub data Paired (l : ℕ) : Type 0 where
  inside : 6330 ≤ l → l ≤ 6399 → is_pair_label l ≡ true → row_label l ≡ 6330 + l % 2 → Paired l
  below : l < 6330 → is_pair_label l ≡ false → row_label l ≡ l → Paired l
  above : 6399 < l → is_pair_label l ≡ false → row_label l ≡ l → Paired l

pub paired : (l : ℕ) → Paired l
unfolding row_label
paired l = go (leb 6330 l) (leb l 6399) refl refl
  where
    go : (a b : Bool) → leb 6330 l ≡ a → leb l 6399 ≡ b → Paired l
    go true true p q = inside (leb-true _ _ p) (leb-true _ _ q) (rw (p, q) refl) (rw (p, q) refl)
    go true false p q = above (leb-false _ _ q) (rw (p, q) refl) (rw (p, q) refl)
    go false true p q = below (leb-false _ _ p) (rw p refl) (rw p refl)
    go false false p q = below (leb-false _ _ p) (rw p refl) (rw p refl)

-- a row other than 6330 and 6331 is that of one label
pub label_of : (l n : ℕ) → row_label l ≡ n → (n ≡ 6330 → ⊥) → (n ≡ 6331 → ⊥) → l ≡ n
label_of l n e a b = go (paired l)
  where
    go : Paired l → l ≡ n
    go (inside p q x y) = absurd (omega arith)
    go (below p x y) = omega arith
    go (above p x y) = omega arith

pub name_of : (l : ℕ) → row_label l ≡ 6330 → IsName l
name_of l e = go (paired l)
  where
    go : Paired l → IsName l
    go (inside p q x y) = omega arith
    go (below p x y) = absurd (omega arith)
    go (above p x y) = absurd (omega arith)

pub odd-of : (l : ℕ) → row_label l ≡ 6331 → IsOdd l
odd-of l e = go (paired l)
  where
    go : Paired l → IsOdd l
    go (inside p q x y) = omega arith
    go (below p x y) = absurd (omega arith)
    go (above p x y) = absurd (omega arith)

pub name-row-label : (l : ℕ) → IsName l → row_label l ≡ 6330
name-row-label l h = go (paired l)
  where
    go : Paired l → row_label l ≡ 6330
    go (inside p q x y) = omega arith
    go (below p x y) = absurd (omega arith)
    go (above p x y) = absurd (omega arith)

pub odd-row-label : (l : ℕ) → IsOdd l → row_label l ≡ 6331
odd-row-label l h = go (paired l)
  where
    go : Paired l → row_label l ≡ 6331
    go (inside p q x y) = omega arith
    go (below p x y) = absurd (omega arith)
    go (above p x y) = absurd (omega arith)

-- ---- one test over the rows of a table

-- the members on which another one depends, and those that depend
abbrev pub conditional : List ℕ
conditional = 8420 ∷ 8421 ∷ 8437 ∷ 8438 ∷ 8461 ∷ 8462 ∷ []

abbrev regular : Row → Bool
regular r =
    not (eqb r.label 0)
    && ((eqb r.under 0 || (eqb r.under 8410 || (eqb r.under 6302 || eqb r.under 6330)))
    && (implies (eqb r.under 6330) (eqb r.label 6331)
    && (implies (eqb r.label 6331) (eqb r.under 6330)
    && (implies (eqb r.label 6330) (eqb r.under 0 && (r.many && not r.required))
    && (implies (eqb r.label 8410 || eqb r.label 6302) (eqb r.under 0)
    && implies (elem r.label conditional) (eqb r.under 8410))))))

all-regular : (t : SetType) → all_rows regular (table t) ≡ true
unfolding table rows6300 rows6301 rows6302 rows6310 rows6311 elem
all-regular T6300 = refl
all-regular T6301 = refl
all-regular T6302 = refl
all-regular T6310 = refl
all-regular T6311 = refl

-- the same as facts
pub record Regular (r : Row) : Type 0 where
  pub not-zero : r.label ≡ 0 → ⊥
  pub level : (r.under ≡ set_level) ⊎ (((r.under ≡ 8410) ⊎ (r.under ≡ 6302)) ⊎ (r.under ≡ 6330))
  pub odd-row : r.under ≡ 6330 → r.label ≡ 6331
  pub under-name : r.label ≡ 6331 → r.under ≡ 6330
  pub name-at-set-level : r.label ≡ 6330 → r.under ≡ set_level
  pub name-repeats : r.label ≡ 6330 → r.many ≡ true
  pub name-optional : r.label ≡ 6330 → r.required ≡ false
  pub header-at-set-level : (r.label ≡ 8410) ⊎ (r.label ≡ 6302) → r.under ≡ set_level
  pub conditional-member : elem r.label conditional ≡ true → r.under ≡ 8410

levels : (u : ℕ) → eqb u 0 || (eqb u 8410 || (eqb u 6302 || eqb u 6330)) ≡ true → (u ≡ 0) ⊎ (((u ≡ 8410) ⊎ (u ≡ 6302)) ⊎ (u ≡ 6330))
levels u e = go (or_cases (eqb u 0) _ e)
  where
    third : (eqb u 6302 ≡ true) ⊎ (eqb u 6330 ≡ true) → (u ≡ 0) ⊎ (((u ≡ 8410) ⊎ (u ≡ 6302)) ⊎ (u ≡ 6330))
    third (inl p) = inr (inl (inr (eqb-true _ _ p)))
    third (inr p) = inr (inr (eqb-true _ _ p))

    second : (eqb u 8410 ≡ true) ⊎ (eqb u 6302 || eqb u 6330 ≡ true) → (u ≡ 0) ⊎ (((u ≡ 8410) ⊎ (u ≡ 6302)) ⊎ (u ≡ 6330))
    second (inl p) = inr (inl (inl (eqb-true _ _ p)))
    second (inr p) = third (or_cases (eqb u 6302) _ p)

    go : (eqb u 0 ≡ true) ⊎ (eqb u 8410 || (eqb u 6302 || eqb u 6330) ≡ true) → (u ≡ 0) ⊎ (((u ≡ 8410) ⊎ (u ≡ 6302)) ⊎ (u ≡ 6330))
    go (inl p) = inl (eqb-true _ _ p)
    go (inr p) = second (or_cases (eqb u 8410) _ p)

header-test : (l : ℕ) → (l ≡ 8410) ⊎ (l ≡ 6302) → eqb l 8410 || eqb l 6302 ≡ true
header-test l (inl p) = rw (eq-eqb l 8410 p) refl
header-test l (inr p) = go (eqb l 8410)
  where
    go : (b : Bool) → b || eqb l 6302 ≡ true
    go true = refl
    go false = eq-eqb l 6302 p

regular-row : (r : Row) → regular r ≡ true → Regular r
regular-row r e =
    let a = not (eqb r.label 0) in
    let e1 = and_right a _ e in
    let b = eqb r.under 0 || (eqb r.under 8410 || (eqb r.under 6302 || eqb r.under 6330)) in
    let e2 = and_right b _ e1 in
    let c = implies (eqb r.under 6330) (eqb r.label 6331) in
    let e3 = and_right c _ e2 in
    let d = implies (eqb r.label 6331) (eqb r.under 6330) in
    let e4 = and_right d _ e3 in
    let f = implies (eqb r.label 6330) (eqb r.under 0 && (r.many && not r.required)) in
    let e5 = and_right f _ e4 in
    let g = implies (eqb r.label 8410 || eqb r.label 6302) (eqb r.under 0) in
    let name : r.label ≡ 6330 → eqb r.under 0 && (r.many && not r.required) ≡ true = λ q. implied (eqb r.label 6330) _ (and_left f _ e4) (eq-eqb _ _ q) in
    record {
      not-zero = λ q. no-absurd (eq-eqb r.label 0 q) (not-true (eqb r.label 0) (and_left a _ e));
      level = levels r.under (and_left b _ e1);
      odd-row = λ q. eqb-true _ _ (implied (eqb r.under 6330) _ (and_left c _ e2) (eq-eqb _ _ q));
      under-name = λ q. eqb-true _ _ (implied (eqb r.label 6331) _ (and_left d _ e3) (eq-eqb _ _ q));
      name-at-set-level = λ q. eqb-true _ _ (and_left (eqb r.under 0) _ (name q));
      name-repeats = λ q. and_left r.many _ (and_right (eqb r.under 0) _ (name q));
      name-optional = λ q. not-true r.required (and_right r.many _ (and_right (eqb r.under 0) _ (name q)));
      header-at-set-level = λ q. eqb-true _ _ (implied (eqb r.label 8410 || eqb r.label 6302) _ (and_left g _ e5) (header-test r.label q));
      conditional-member = λ q. eqb-true _ _ (implied (elem r.label conditional) _ (and_right g _ e5) q);
    }

pub row-regular : (t : SetType) (l : ℕ) (r : Row) → HasRow t l r → Regular r
unfolding find
row-regular t l r e = regular-row r (found regular (table t) (row_label l) r e (all-regular t)).0

pub row-label : (t : SetType) (l : ℕ) (r : Row) → HasRow t l r → r.label ≡ row_label l
unfolding find
row-label t l r e = (found regular (table t) (row_label l) r e (all-regular t)).1

-- a label has one row
pub one-row : (t : SetType) (l : ℕ) (r q : Row) → HasRow t l r → HasRow t l q → r ≡ q
one-row t l r q a b = some_same (sym a ∙ b)

-- no row is that of label 0, which stands after the last line
pub no-row-0 : (t : SetType) (l : ℕ) (r : Row) → HasRow t l r → l ≡ 0 → ⊥
unfolding row_label
no-row-0 t l r e q = (row-regular t l r e).not-zero (row-label t l r e ∙ ap row_label q)

-- ---- groups and pairs stand in 6310 alone

-- outside it every row stands at set level, and none is a name's
abbrev plain : Row → Bool
plain r = eqb r.under 0 && not (eqb r.label 6330)

not_plain {ℓ} : {X : Type ℓ} (r : Row) → plain r ≡ true → (r.under ≡ 0 → ⊥) ⊎ (r.label ≡ 6330) → X
not_plain r p (inl n) = absurd (n (eqb-true _ _ (and_left (eqb r.under 0) _ p)))
not_plain r p (inr q) = absurd (true≢false (sym (eq-eqb _ _ q) ∙ not-true (eqb r.label 6330) (and_right (eqb r.under 0) _ p)))

pub only-6310 : (t : SetType) (l : ℕ) (r : Row) → HasRow t l r → (r.under ≡ 0 → ⊥) ⊎ (r.label ≡ 6330) → t ≡ T6310
unfolding find table rows6300 rows6301 rows6302 rows6311
only-6310 T6300 l r e h = not_plain r (found plain rows6300 (row_label l) r e refl).0 h
only-6310 T6301 l r e h = not_plain r (found plain rows6301 (row_label l) r e refl).0 h
only-6310 T6302 l r e h = not_plain r (found plain rows6302 (row_label l) r e refl).0 h
only-6310 T6310 l r e h = refl
only-6310 T6311 l r e h = not_plain r (found plain rows6311 (row_label l) r e refl).0 h

-- ---- members and odd labels

pub not-0 : (u : ℕ) → (u ≡ 8410) ⊎ (u ≡ 6302) → eqb u 0 ≡ false
not-0 u (inl e) = ne_eqb u 0 (λ q. omega arith)
not-0 u (inr e) = ne_eqb u 0 (λ q. omega arith)

pub not-6330 : (u : ℕ) → (u ≡ 8410) ⊎ (u ≡ 6302) → eqb u 6330 ≡ false
not-6330 u (inl e) = ne_eqb u 6330 (λ q. omega arith)
not-6330 u (inr e) = ne_eqb u 6330 (λ q. omega arith)

pub not-name-row : (u : ℕ) → (u ≡ 8410) ⊎ (u ≡ 6302) → u ≡ 6330 → ⊥
not-name-row u (inl e) q = omega arith
not-name-row u (inr e) q = omega arith

pub not-odd-row : (u : ℕ) → (u ≡ 8410) ⊎ (u ≡ 6302) → u ≡ 6331 → ⊥
not-odd-row u (inl e) q = omega arith
not-odd-row u (inr e) q = omega arith

-- a member of a group is no label of a pair: those have the rows 6330 and 6331, which stand at set level and under 6330
pub member-no-pair : (t : SetType) (l : ℕ) (r : Row) → HasRow t l r → (r.under ≡ 8410) ⊎ (r.under ≡ 6302) → is_pair_label l ≡ false
member-no-pair t l r h u = go (paired l)
  where
    g : Regular r
    g = row-regular t l r h

    go : Paired l → is_pair_label l ≡ false
    go (below p x y) = x
    go (above p x y) = x
    go (inside p q x y) = absurd (ends u)
      where
        which : (r.label ≡ 6330) ⊎ (r.label ≡ 6331)
        which = parity (l % 2) refl
          where
            parity : (m : ℕ) → l % 2 ≡ m → (r.label ≡ 6330) ⊎ (r.label ≡ 6331)
            parity zero e = inl (row-label t l r h ∙ omega arith)
            parity (suc m) e = inr (row-label t l r h ∙ omega arith)

        ends : (r.under ≡ 8410) ⊎ (r.under ≡ 6302) → ⊥
        ends (inl e) = ends-of which
          where
            ends-of : (r.label ≡ 6330) ⊎ (r.label ≡ 6331) → ⊥
            ends-of (inl w) = omega (arith, g.name-at-set-level w)
            ends-of (inr w) = omega (arith, g.under-name w)
        ends (inr e) = ends-of which
          where
            ends-of : (r.label ≡ 6330) ⊎ (r.label ≡ 6331) → ⊥
            ends-of (inl w) = omega (arith, g.name-at-set-level w)
            ends-of (inr w) = omega (arith, g.under-name w)

pub odd-row-odd : (t : SetType) (l : ℕ) (r : Row) → HasRow t l r → r.under ≡ 6330 → IsOdd l
odd-row-odd t l r h u = odd-of l (sym (row-label t l r h) ∙ (row-regular t l r h).odd-row u)

pub odd-is-pair : (l : ℕ) → IsOdd l → is_pair_label l ≡ true
odd-is-pair l o = go (paired l)
  where
    go : Paired l → is_pair_label l ≡ true
    go (inside p q x y) = x
    go (below p x y) = absurd (omega arith)
    go (above p x y) = absurd (omega arith)

-- ---- every row is found by its label

abbrev row_labels : List Row → List ℕ
row_labels [] = []
row_labels (r ∷ rs) = r.label ∷ row_labels rs

abbrev distinct : List Row → Bool
distinct [] = true
distinct (r ∷ rs) = not (elem r.label (row_labels rs)) && distinct rs

-- a row's label is printed under itself
abbrev own : Row → Bool
own r = eqb (row_label r.label) r.label

all-distinct : (t : SetType) → distinct (table t) && all_rows own (table t) ≡ true
unfolding table rows6300 rows6301 rows6302 rows6310 rows6311 elem row_label
all-distinct T6300 = refl
all-distinct T6301 = refl
all-distinct T6302 = refl
all-distinct T6310 = refl
all-distinct T6311 = refl

found-elem : (rs : List Row) (l : ℕ) (r : Row) → find_in rs l ≡ some r → elem l (row_labels rs) ≡ true
unfolding find_in elem
found-elem [] l r e = none-some e
found-elem (x ∷ xs) l r e = go (found-elem xs l r) (eqb l x.label) e
  where
    go : (find_in xs l ≡ some r → elem l (row_labels xs) ≡ true) → (b : Bool) → cond b (some x) (find_in xs l) ≡ some r → b || elem l (row_labels xs) ≡ true
    go ih true q = refl
    go ih false q = ih q

-- what holds of every row that is found by its own label holds of every row
rows-found : (P : Row → Type 0) (rs : List Row) → distinct rs ≡ true → ((r : Row) → find_in rs r.label ≡ some r → P r) → Every P rs
unfolding find_in
rows-found P [] d h = tt
rows-found P (x ∷ xs) d h =
    (h x (rw (eq-eqb x.label x.label refl) refl), rows-found P xs (and_right (not (elem x.label (row_labels xs))) _ d) later)
  where
    later : (r : Row) → find_in xs r.label ≡ some r → P r
    later r e = h r (rw (ne_eqb r.label x.label differs) e)
      where
        differs : r.label ≡ x.label → ⊥
        differs q = no-absurd (subst (λ (l : ℕ). elem l (row_labels xs) ≡ true) q (found-elem xs r.label r e)) (not-true _ (and_left (not (elem x.label (row_labels xs))) _ d))

pub every-row : (P : Row → Type 0) (t : SetType) → ((r : Row) → HasRow t r.label r → P r) → Every P (table t)
unfolding find
every-row P t h = rows-found P (table t) (and_left (distinct (table t)) _ (all-distinct t)) (λ r e. h r (own-label r e))
  where
    own-label : (r : Row) → find_in (table t) r.label ≡ some r → find_in (table t) (row_label r.label) ≡ some r
    own-label r e = rw (eqb-true (row_label r.label) r.label (found own (table t) r.label r e (and_right (distinct (table t)) _ (all-distinct t))).0) e

found-every : (P : Row → Type 0) (rs : List Row) (l : ℕ) (r : Row) → find_in rs l ≡ some r → Every P rs → P r
unfolding find_in
found-every P [] l r e h = none-some e
found-every P (x ∷ xs) l r e h = go (λ q. found-every P xs l r q h.1) (eqb l x.label) e
  where
    go : (find_in xs l ≡ some r → P r) → (b : Bool) → cond b (some x) (find_in xs l) ≡ some r → P r
    go ih true q = subst P (some_same q) h.0
    go ih false q = ih q

pub row-every : (P : Row → Type 0) (t : SetType) (l : ℕ) (r : Row) → HasRow t l r → Every P (table t) → P r
unfolding find
row-every P t l r e h = found-every P (table t) (row_label l) r e h
