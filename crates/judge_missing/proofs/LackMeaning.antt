-- What a group and the set lack, by the few labels that are needed: the first of what `Missing` lists.
use mathlib.Core.Path.{◌≡◌, refl, sym, ap, ap₂, ◌∙◌}
use mathlib.Core.Bool.{Bool, true, false, cond, not, ◌&&◌, ◌||◌, true≢false}
use mathlib.Core.List.{List, [], ◌∷◌, ◌++◌}
use Prim.Native.Nat.{ℕ, ◌+◌, ◌%◌, ◌<◌}
use native.Mathlib.Omega.{arith}
use lib.Dec.{eqb}
use borrow.Author.Tests.{eqb-true, eqb-false, ne_eqb}
use Rattle.std.specs.Prelude.{Some}
use Rattle.meaning.specs.declared.Refusal.{Refusal}
use Rattle.meaning.specs.declared.Row.{Row}
use Rattle.meaning.specs.declared.SetType.{SetType}
use Rattle.meaning.specs.declared.SetType.TheVariants.{T6300, T6301, T6302, T6310, T6311}
use Rattle.meaning.specs.Field.{elem}
use Rattle.meaning.specs.Refusals.{Spot, start, Fault, at_line, ask, refusal, missing}
use Rattle.meaning.specs.Tables.{rows6300, rows6301, rows6302, rows6310, rows6311, table, row_label, is_pair_label, set_level}
use Rattle.meaning.specs.Missing.{on_condition, needed, rows_under, insert, ascending, missing_label, lacking_of, lacking, among, open_lacking}
use Rattle.meaning.specs.Answers.{no_refusal}
use Rattle.meaning.specs.Groups as G
use Rattle.meaning.specs.Groups.{no_header}
use Rattle.meaning.proofs.Bools.{and_left, and_right}
use Rattle.judge_missing.specs.Lacks.{lacks, lack_here, valued, lack8437, lack8410, lack6302, lack_name, lack_under, group_lack, lack_all, required_labels, Flagged, seen, open_lack}
use Rattle.judge_missing.specs.Lacks.{told, told_lack, only_missing}
use Rattle.judge_missing.proofs.FlagLaws.{Agrees}
use Rattle.meaning.proofs.FirstLaws.{first_of, first-rule}

-- ---- set level

not-not : (b : Bool) {A : Type 0} (x y : A) → cond (not (not b)) x y ≡ cond b x y
not-not true x y = refl
not-not false x y = refl

module _ (has : ℕ → Bool) (pl : ℕ → Spot → ℕ) (z : 0 ≡ pl 0 start) where
  -- the asks of required labels
  asks : List ℕ → List Fault
  asks [] = []
  asks (l ∷ ls) = ask (not (not (has l))) (at_line missing 0 l) ++ asks ls

  asks-are : (ls : List ℕ) → lack_all has ls ≡ first_of pl (asks ls)
  unfolding lack_all asks
  asks-are [] = refl
  asks-are (l ∷ ls) =
      ap₂ (λ (x y : Refusal). cond (has l) x y) (asks-are ls) (ap (λ (p : ℕ). refusal missing p l) z)
      ∙ (sym (not-not (has l) (first_of pl (asks ls)) (refusal missing (pl 0 start) l)) ∙ sym (first-rule pl (not (not (has l))) (at_line missing 0 l) (asks ls)))

  pub set-lack : (settype : SetType) → lack_all has (required_labels settype) ≡ first_of pl (lacking (table settype) set_level 0 has)
  unfolding table rows6300 rows6301 rows6302 rows6310 rows6311 lacking lacking_of rows_under insert ascending needed on_condition missing_label row_label asks
  set-lack T6300 = asks-are (required_labels T6300)
  set-lack T6301 = asks-are (required_labels T6301)
  set-lack T6302 = asks-are (required_labels T6302)
  set-lack T6310 = asks-are (required_labels T6310)
  set-lack T6311 = asks-are (required_labels T6311)

-- ---- groups

-- the rows under a row's label
with_under : List Row → ℕ → List Row
with_under [] w = []
with_under (r ∷ rs) w = let rest = with_under rs w in cond (eqb r.under w) (r ∷ rest) rest

rows-under : (rs : List Row) (h : ℕ) → rows_under rs h ≡ with_under rs (row_label h)
unfolding rows_under with_under
rows-under [] h = refl
rows-under (r ∷ rs) h = ap (λ (x : List Row). cond (eqb r.under (row_label h)) (r ∷ x) x) (rows-under rs h)

-- a name's row is 6330, and 6330 is the row of names alone
name-row : (h : ℕ) → row_label h ≡ 6330 → is_pair_label h ≡ true
unfolding row_label
name-row h = go (is_pair_label h) refl
  where
    go : (b : Bool) → is_pair_label h ≡ b → cond b (6330 + h % 2) h ≡ 6330 → b ≡ true
    go true e q = refl
    go false e q = sym e ∙ ap is_pair_label q

other_row : (h w : ℕ) → row_label h ≡ w → 6399 < w → is_pair_label h ≡ false
unfolding row_label
other_row h w = go (is_pair_label h) refl
  where
    go : (b : Bool) → is_pair_label h ≡ b → cond b (6330 + h % 2) h ≡ w → 6399 < w → b ≡ false
    go true e q l = absurd (omega arith)
    go false e q l = refl

archive-row : (h : ℕ) → row_label h ≡ 6302 → is_pair_label h ≡ false
unfolding row_label
archive-row h = go (is_pair_label h)
  where
    go : (b : Bool) → cond b (6330 + h % 2) h ≡ 6302 → b ≡ false
    go true q = absurd (omega arith)
    go false q = refl

some-row : (h : ℕ) → (h ≡ 0 → ⊥) → row_label h ≡ 0 → ⊥
unfolding row_label
some-row h n = go (is_pair_label h)
  where
    go : (b : Bool) → cond b (6330 + h % 2) h ≡ 0 → ⊥
    go true q = omega arith
    go false q = n q

-- a rule that is stated by its breach
first-breach : (pl : ℕ → Spot → ℕ) (b : Bool) (x : Fault) (r : List Fault)
    → first_of pl (ask (not b) x ++ r) ≡ cond b (refusal x.no (pl x.line x.spot) x.label) (first_of pl r)
first-breach pl true x r = refl
first-breach pl false x r = refl

-- every row stands under one of us
abbrev all_under : List ℕ → List Row → Bool
all_under us [] = true
all_under us (r ∷ rs) = elem r.under us && all_under us rs

-- so no row stands under anything else
none-under : (us : List ℕ) (rs : List Row) (w : ℕ) → all_under us rs ≡ true → elem w us ≡ false → with_under rs w ≡ []
unfolding with_under
none-under us [] w q n = refl
none-under us (r ∷ rs) w q n = pick (eqb r.under w) refl (none-under us rs w (and_right (elem r.under us) _ q) n)
  where
    pick : (b : Bool) → eqb r.under w ≡ b → with_under rs w ≡ [] → cond b (r ∷ with_under rs w) (with_under rs w) ≡ []
    pick true e h = absurd (true≢false (sym (and_left (elem r.under us) _ q) ∙ (ap (λ (x : ℕ). elem x us) (eqb-true r.under w e) ∙ n)))
    pick false e h = h

module _ (has : ℕ → Bool) (pl : ℕ → Spot → ℕ) (h k place : ℕ) (e : place ≡ pl k start) where
  lack-here : (l : ℕ) → lack_here place l ≡ refusal missing (pl k start) l
  lack-here l = ap (λ (p : ℕ). refusal missing p l) e

  of-8410 : is_pair_label h ≡ false → lack8410 has place ≡ first_of pl (lacking_of (ascending (with_under rows6310 8410)) h k has)
  unfolding lack8410 lack8437 valued rows6310 with_under insert ascending lacking_of needed on_condition missing_label
  of-8410 q =
      rw q (ap₂ (λ (x y : Refusal). cond (lacks has 8421 (has 8420 || (has 8461 || has 8462))) x y) (lack-here 8421)
      (ap (λ (x : Refusal). cond (lacks has 8437 (has 8438)) x no_refusal) (lack-here 8437) ∙ sym (first-breach pl (lacks has 8437 (has 8438)) (at_line missing k 8437) []))
      ∙ sym (first-breach pl (lacks has 8421 (has 8420 || (has 8461 || has 8462))) (at_line missing k 8421) (ask (not (lacks has 8437 (has 8438))) (at_line missing k 8437) ++ [])))

  of-6302 : is_pair_label h ≡ false → lack6302 has place ≡ first_of pl (lacking_of (ascending (with_under rows6310 6302)) h k has)
  unfolding lack6302 rows6310 with_under insert ascending lacking_of needed on_condition missing_label
  of-6302 q =
      rw q (pick (has 6303) (has 6304) (has 6305))
    where
      pick : (a b c : Bool) → cond a (cond b (cond c no_refusal (lack_here place 6305)) (lack_here place 6304)) (lack_here place 6303)
          ≡ first_of pl (ask (not (not a)) (at_line missing k 6303) ++ (ask (not (not b)) (at_line missing k 6304) ++ (ask (not (not c)) (at_line missing k 6305) ++ [])))
      pick false b c = lack-here 6303
      pick true false c = lack-here 6304
      pick true true false = lack-here 6305
      pick true true true = refl

  of-name : is_pair_label h ≡ true → lack_name has h place ≡ first_of pl (lacking_of (ascending (with_under rows6310 6330)) h k has)
  unfolding lack_name rows6310 with_under insert ascending lacking_of needed on_condition missing_label
  of-name q = rw q (pick (has 6331))
    where
      pick : (a : Bool) → cond a no_refusal (lack_here place (h + 1)) ≡ first_of pl (ask (not (not a)) (at_line missing k (h + 1)) ++ [])
      pick true = refl
      pick false = lack-here (h + 1)

  -- no row stands under any other label
  of_none : (w : ℕ) → (w ≡ 0 → ⊥) → (w ≡ 8410 → ⊥) → (w ≡ 6302 → ⊥) → (w ≡ 6330 → ⊥) → with_under rows6310 w ≡ []
  unfolding rows6310 elem
  of_none w a b c d = none-under (0 ∷ 8410 ∷ 6302 ∷ 6330 ∷ []) rows6310 w refl (rw (ne_eqb w 0 a, ne_eqb w 8410 b, ne_eqb w 6302 c, ne_eqb w 6330 d))

  of-6310 : (h ≡ 0 → ⊥) → lack_under (row_label h) has h place ≡ first_of pl (lacking_of (ascending (with_under rows6310 (row_label h))) h k has)
  unfolding lack_under ascending lacking_of
  of-6310 n = by-8410 (eqb (row_label h) 8410) refl
    where
      by-6330 : (b : Bool) → eqb (row_label h) 6330 ≡ b → (row_label h ≡ 8410 → ⊥) → (row_label h ≡ 6302 → ⊥)
          → cond b (lack_name has h place) no_refusal ≡ first_of pl (lacking_of (ascending (with_under rows6310 (row_label h))) h k has)
      by-6330 true q x y =
          let z : row_label h ≡ 6330 = eqb-true (row_label h) 6330 q in
          of-name (name-row h z) ∙ ap (λ (v : ℕ). first_of pl (lacking_of (ascending (with_under rows6310 v)) h k has)) (sym z)
      by-6330 false q x y =
          sym (ap (λ (v : List Row). first_of pl (lacking_of (ascending v) h k has)) (of_none (row_label h) (some-row h n) x y (eqb-false (row_label h) 6330 q)))

      by-6302 : (b : Bool) → eqb (row_label h) 6302 ≡ b → (row_label h ≡ 8410 → ⊥)
          → cond b (lack6302 has place) (cond (eqb (row_label h) 6330) (lack_name has h place) no_refusal) ≡ first_of pl (lacking_of (ascending (with_under rows6310 (row_label h))) h k has)
      by-6302 true q x =
          let z : row_label h ≡ 6302 = eqb-true (row_label h) 6302 q in
          of-6302 (archive-row h z) ∙ ap (λ (v : ℕ). first_of pl (lacking_of (ascending (with_under rows6310 v)) h k has)) (sym z)
      by-6302 false q x = by-6330 (eqb (row_label h) 6330) refl x (eqb-false (row_label h) 6302 q)

      by-8410 : (b : Bool) → eqb (row_label h) 8410 ≡ b
          → cond b (lack8410 has place) (cond (eqb (row_label h) 6302) (lack6302 has place) (cond (eqb (row_label h) 6330) (lack_name has h place) no_refusal))
          ≡ first_of pl (lacking_of (ascending (with_under rows6310 (row_label h))) h k has)
      by-8410 true q =
          let z : row_label h ≡ 8410 = eqb-true (row_label h) 8410 q in
          of-8410 (other_row h 8410 z (omega arith)) ∙ ap (λ (v : ℕ). first_of pl (lacking_of (ascending (with_under rows6310 v)) h k has)) (sym z)
      by-8410 false q = by-6302 (eqb (row_label h) 6302) refl (eqb-false (row_label h) 8410 q)

  -- the other tables have no groups
  nothing-under : (rs : List Row) → all_under (0 ∷ []) rs ≡ true → (h ≡ 0 → ⊥) → no_refusal ≡ first_of pl (lacking rs h k has)
  unfolding lacking ascending lacking_of elem
  nothing-under rs q n =
      sym (ap (λ (v : List Row). first_of pl (lacking_of (ascending v) h k has))
      (rows-under rs h ∙ none-under (0 ∷ []) rs (row_label h) q (rw (ne_eqb (row_label h) 0 (some-row h n)))))

  by_rows : (h ≡ 0 → ⊥) → lack_under (row_label h) has h place ≡ first_of pl (lacking rows6310 h k has)
  unfolding lacking
  by_rows n = of-6310 n ∙ ap (λ (v : List Row). first_of pl (lacking_of (ascending v) h k has)) (sym (rows-under rows6310 h))

  pub group-lack : (settype : SetType) → (h ≡ 0 → ⊥) → group_lack settype has h place ≡ first_of pl (lacking (table settype) h k has)
  unfolding group_lack table rows6300 rows6301 rows6302 rows6311 elem
  group-lack T6300 n = nothing-under rows6300 refl n
  group-lack T6301 n = nothing-under rows6301 refl n
  group-lack T6302 n = nothing-under rows6302 refl n
  group-lack T6310 n = by_rows n
  group-lack T6311 n = nothing-under rows6311 refl n

-- ---- the open group, and all groups

pub open_is : (settype : SetType) (pl : ℕ → Spot → ℕ) (st : Flagged) (ms : G.State) → Agrees pl st ms
    → open_lack settype st.header st.place st.members ≡ first_of pl (open_lacking (table settype) ms)
unfolding open_lack open_lacking
open_is settype pl st ms s =
    ap (λ (h : ℕ). cond (eqb h no_header) no_refusal (group_lack settype (seen st.members) h st.place)) s.header
    ∙ (ap (λ (has : ℕ → Bool). cond (eqb ms.header no_header) no_refusal (group_lack settype has ms.header st.place)) (λ i l. s.members.same l i)
    ∙ go (eqb ms.header no_header) refl)
  where
    go : (b : Bool) → eqb ms.header no_header ≡ b
        → cond b no_refusal (group_lack settype (among ms.members) ms.header st.place) ≡ first_of pl (cond b [] (lacking (table settype) ms.header ms.line (among ms.members)))
    go true e = refl
    go false e = group-lack (among ms.members) pl ms.header ms.line st.place s.place settype (eqb-false ms.header no_header e)

-- ---- what is lacking by 16

-- it is the refusal of a `Lack`, the one with its place and its label
pub missing-told : (r : Refusal) → only_missing (Some r) → told (Some r) ≡ told_lack (Some (record { place = r.place; label = r.label }))
missing-told r e = ap (λ (n : ℕ). refusal n r.place r.label) e
