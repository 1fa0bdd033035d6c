-- Labels that stand for headers and members: what each `return` of `is_header`, `is_member`, `header_of` and `last_after` has to show.
use mathlib.Core.Path.{◌≡◌, refl}
use mathlib.Core.Bool.{Bool, true, false, ◌||◌}
use Prim.Native.Nat.{ℕ, ◌%◌, ◌≤◌, ◌<◌}
use native.Mathlib.Omega.{arith}
use lib.Dec.{leb, eqb}
use borrow.Author.Tests.{le-leb, lt-leb, leb-true, eq-eqb, ne_eqb}
use Rattle.meaning.specs.Tables.{is_pair_label}
use Rattle.meaning.proofs.Bools.{and_left, and_right}
use Rattle.index_walk.specs.Walking.{is_header, is_member, header_of, last_after}

or-false : (a : Bool) → a || false ≡ a
or-false true = refl
or-false false = refl

-- ---- names and odd labels

module _ (l : ℕ) where
  pub pair-least : is_pair_label l ≡ true → 6330 ≤ l
  pair-least p = leb-true 6330 l (and_left (leb 6330 l) _ p)

  pub pair-most : is_pair_label l ≡ true → l ≤ 6399
  pair-most p = leb-true l 6399 (and_right (leb 6330 l) _ p)

  pair-above : 6399 < l → is_pair_label l ≡ false
  pair-above h = rw (le-leb 6330 l (omega arith), lt-leb l 6399 h)

-- ---- a label that stands for a header

module _ (l : ℕ) where
  pub header-above : 8410 < l → is_header l ≡ false
  unfolding is_header
  header-above h = rw (ne_eqb l 8410 (λ e. omega arith), ne_eqb l 6302 (λ e. omega arith), pair-above l (omega arith))

  pub header-8410 : l ≡ 8410 → is_header l ≡ true
  unfolding is_header
  header-8410 e = rw (eq-eqb l 8410 e)

  pub header-pair : is_pair_label l ≡ true → is_header l ≡ eqb (l % 2) 0
  unfolding is_header
  header-pair p =
      let a = pair-least l p in
      let b = pair-most l p in
      rw (ne_eqb l 8410 (λ e. omega arith), ne_eqb l 6302 (λ e. omega arith), p)

  pub header-other : (l ≡ 8410 → ⊥) → is_pair_label l ≡ false → is_header l ≡ eqb l 6302
  unfolding is_header
  header-other n p = rw (ne_eqb l 8410 n, p, or-false (eqb l 6302))

-- ---- a label that stands for a member

module _ (l : ℕ) where
  pub member-above : 8410 < l → is_member l ≡ leb l 8480
  unfolding is_member
  member-above h = rw (le-leb 8411 l (omega arith), le-leb 6303 l (omega arith), lt-leb l 6305 (omega arith), pair-above l (omega arith), or-false (leb l 8480))

  pub member-pair : is_pair_label l ≡ true → is_member l ≡ eqb (l % 2) 1
  unfolding is_member
  member-pair p =
      let a = pair-least l p in
      let b = pair-most l p in
      rw (lt-leb 8411 l (omega arith), le-leb 6303 l (omega arith), lt-leb l 6305 (omega arith), p)

  pub member-low : l < 6303 → is_pair_label l ≡ false → is_member l ≡ false
  unfolding is_member
  member-low h p = rw (lt-leb 8411 l (omega arith), lt-leb 6303 l h, p)

  pub member-other : l ≤ 8410 → 6303 ≤ l → is_pair_label l ≡ false → is_member l ≡ leb l 6305
  unfolding is_member
  member-other a b p = rw (lt-leb 8411 l (omega arith), le-leb 6303 l b, p, or-false (leb l 6305))

-- ---- which number is taken

module _ (l last : ℕ) where
  pub of-member : is_member l ≡ true → header_of l last ≡ last
  unfolding header_of
  of-member m = rw m

  pub of_other : is_member l ≡ false → header_of l last ≡ 0
  unfolding header_of
  of_other m = rw m

  pub last-header : (n : ℕ) → is_header l ≡ true → last_after l n last ≡ n
  unfolding last_after
  last-header n h = rw h

  pub last-other : (n : ℕ) → is_header l ≡ false → last_after l n last ≡ last
  unfolding last_after
  last-other n h = rw h
