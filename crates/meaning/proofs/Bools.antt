-- Facts on tests and on lists that know nothing of sets.
use mathlib.Core.Path.{◌≡◌, refl, sym}
use mathlib.Core.Bool.{Bool, true, false, not, ◌&&◌, ◌||◌, true≢false}
use mathlib.Core.List.{List, [], ◌∷◌}
use Prim.Native.Nat.{ℕ, zero, suc, ◌+◌, ◌<◌}
use native.Mathlib.Numerals.{add-one}
use native.Mathlib.Omega.{arith}
use lib.Dec.{leb}
use lib.ListN.{length, drop, get_or, set, drop_of_length-le}
use lib.Seq.{drop-cons}
use borrow.Author.Tests.{leb-true, leb-false}
use Rattle.meaning.specs.Field.{is_nil}

-- ---- tests

pub and_left : (a b : Bool) → a && b ≡ true → a ≡ true
and_left true b e = refl
and_left false b e = e

pub and_right : (a b : Bool) → a && b ≡ true → b ≡ true
and_right true b e = e
and_right false b e = cc

pub and_both : {a b : Bool} → a ≡ true → b ≡ true → a && b ≡ true
and_both p q = rw p q

pub and_no : (a : Bool) {b : Bool} → b ≡ false → a && b ≡ false
and_no true e = e
and_no false e = refl

pub or_right : (a : Bool) {b : Bool} → b ≡ true → a || b ≡ true
or_right true e = refl
or_right false e = e

pub not-true : (b : Bool) → not b ≡ true → b ≡ false
not-true true e = sym e
not-true false e = refl

pub not-false : (b : Bool) → not b ≡ false → b ≡ true
not-false true e = refl
not-false false e = sym e

-- ---- lists of nothing

pub nil_is : (t : List ℕ) → is_nil t ≡ true → t ≡ []
nil_is [] e = refl
nil_is (b ∷ bs) e = absurd (true≢false (sym e))

pub none-of-length : {A : Type 0} (xs : List A) → length xs ≡ 0 → xs ≡ []
none-of-length [] e = refl
none-of-length (x ∷ xs) e = absurd (omega arith)

-- ---- the bytes from an offset on

-- at an offset within the bytes stands a byte, and then the others
pub byte-then : (s : List ℕ) (at : ℕ) → at < length s → drop at s ≡ get_or s at 0 ∷ drop (at + 1) s
byte-then s at h = rw add-one (drop-cons s at 0 h)

-- all bytes are before an offset exactly if none stand from there on
pub end_is : (s : List ℕ) (at : ℕ) → leb (length s) at ≡ is_nil (drop at s)
end_is s at = go (leb (length s) at) refl
  where
    go : (b : Bool) → leb (length s) at ≡ b → b ≡ is_nil (drop at s)
    go true e = rw (drop_of_length-le s (leb-true (length s) at e))
    go false e = rw (byte-then s at (leb-false (length s) at e))

-- ---- every element

abbrev pub Every {ℓ} : {A : Type ℓ} → (A → Type 0) → List A → Type 0
Every P [] = Unit
Every P (x ∷ xs) = P x × Every P xs

module _ {A : Type 0} (P : A → Type 0) where
  pub every_set : (xs : List A) (k : ℕ) (y : A) → P y → Every P xs → Every P (set xs k y)
  every_set [] k y p h = tt
  every_set (x ∷ xs) zero y p h = (p, h.1)
  every_set (x ∷ xs) (suc k) y p h = (h.0, every_set xs k y p h.1)

  pub every-at : (xs : List A) (k : ℕ) (d : A) → k < length xs → Every P xs → P (get_or xs k d)
  every-at [] k d l h = absurd (omega arith)
  every-at (x ∷ xs) zero d l h = h.0
  every-at (x ∷ xs) (suc k) d l h = every-at xs k d (omega arith) h.1

  pub every_drop : (n : ℕ) (xs : List A) → Every P xs → Every P (drop n xs)
  every_drop zero xs h = h
  every_drop (suc n) [] h = h
  every_drop (suc n) (x ∷ xs) h = every_drop n xs h.1
