-- How the lines of an accepted set begin, and how many bytes they have with the content of one line changed.
use mathlib.Core.Path.{◌≡◌, refl, sym, ap, ◌∙◌}
use mathlib.Core.Bool.{Bool, true, false, cond, ◌&&◌, true≢false}
use mathlib.Core.List.{List, [], ◌∷◌}
use Prim.Native.Nat.{ℕ, zero, suc, ◌+◌, ◌-◌, ◌<◌}
use native.Mathlib.Omega.{arith}
use lib.Dec.{eqb}
use lib.ListN.{length, drop, get_or, set}
use borrow.Author.Tests.{eqb-true}
use Rattle.meaning.specs.Limits.{type_of}
use Rattle.meaning.specs.Digits.{all_digits, number}
use Rattle.meaning.specs.Field.{Field, field, no_field, label_at_line, content_at_line}
use Rattle.meaning.specs.Lines.{line_size, size, offset}
use Rattle.meaning.specs.Rules.{type_digits, type_named, profile, is_known, type_known}
use Rattle.meaning.specs.Lists.{sum_digits}
use Rattle.meaning.specs.Corrections.{fixed, recontent, resum}
use Rattle.meaning.proofs.Bools.{and_left}
use Rattle.meaning.proofs.RuleLaws.{ruled, begins-of}
use Rattle.meaning.proofs.SetLaws.{Standing, sum_back}
use Rattle.std.specs.Prelude.{None}

-- ---- lines 1 and 2

-- how the lines of an accepted set begin: four digits in line 1, 8100 with five in line 2
pub record Headed (fs : List Field) : Type 0 where
  pub first-four : length (content_at_line fs 0) ≡ 4
  pub second-five : length (content_at_line fs 1) ≡ sum_digits
  pub second-label : label_at_line fs 1 ≡ 8100

known-four : (c : List ℕ) → is_known (type_named c) ≡ true → length c ≡ 4
unfolding type_named
known-four c e = go (eqb (length c) type_digits && all_digits c) refl e
  where
    go : (t : Bool) → eqb (length c) type_digits && all_digits c ≡ t → is_known (cond t (type_of (number c)) None) ≡ true → length c ≡ 4
    go true q h = eqb-true (length c) 4 (and_left (eqb (length c) type_digits) (all_digits c) q)
    go false q h = absurd (true≢false (sym h))

first-known : (fs : List Field) → type_known fs ≡ true → length (content_at_line fs 0) ≡ 4
unfolding profile
first-known fs e = known-four (content_at_line fs 0) e

second-sum : (fs : List Field) → label_at_line fs 1 ≡ 8100 → fs ≡ resum fs → length (content_at_line fs 1) ≡ sum_digits
second-sum [] l e = absurd (omega arith)
second-sum (f ∷ []) l e = absurd (omega arith)
second-sum (f ∷ g ∷ fs) l e = ap (λ (x : List Field). length (content_at_line x 1)) e

pub headed : (fs : List Field) → Standing fs → Headed fs
headed fs st =
    let b = begins-of fs (ruled fs st.right).0.begins in
    record { first-four = first-known fs b.type-known; second-five = second-sum fs b.second-label (sum_back fs st.right); second-label = b.second-label }

-- a line that may be corrected is not line 1 or 2
pub not_at : (fs : List Field) (k i l : ℕ) → fixed l ≡ true → label_at_line fs i ≡ l → fixed (label_at_line fs k) ≡ false → i ≡ k → ⊥
not_at fs k i l t e h q = true≢false (sym t ∙ (ap fixed (sym e) ∙ (ap (λ (j : ℕ). fixed (label_at_line fs j)) q ∙ h)))

-- ---- how many bytes the lines have

pub size-at : (fs : List Field) (k : ℕ) → k < length fs → size fs ≡ offset fs k + line_size (get_or fs k no_field) + size (drop (suc k) fs)
size-at [] k h = absurd (omega arith)
size-at (f ∷ fs) zero h = omega arith
size-at (f ∷ fs) (suc k) h = omega (arith, size-at fs k (omega arith))

-- with another line in its place
size-set : (fs : List Field) (k : ℕ) (g : Field) → k < length fs → size (set fs k g) + line_size (get_or fs k no_field) ≡ size fs + line_size g
size-set [] k g h = absurd (omega arith)
size-set (f ∷ fs) zero g h = omega arith
size-set (f ∷ fs) (suc k) g h = omega (arith, size-set fs k g (omega arith))

-- how many bytes the changed lines have
pub total-is : (c : List ℕ) (fs : List Field) (k : ℕ) → Headed fs → (0 ≡ k → ⊥) → (1 ≡ k → ⊥) → k < length fs
    → size fs - length (content_at_line fs k) + length c ≡ size (resum (recontent fs k c))
total-is c [] k q n0 n1 h = absurd (omega arith)
total-is c (f ∷ []) k q n0 n1 h = absurd (n0 (omega arith))
total-is c (f ∷ g ∷ fs) zero q n0 n1 h = absurd (n0 refl)
total-is c (f ∷ g ∷ fs) (suc zero) q n0 n1 h = absurd (n1 refl)
total-is c (f ∷ g ∷ fs) (suc (suc k)) q n0 n1 h =
    omega (arith, size-at fs k (omega arith), size-set fs k (field (label_at_line fs k) c) (omega arith), q.second-five)
