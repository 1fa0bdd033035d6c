-- The set type that a content of 8000 names is that of its digits, and these name it.
use mathlib.Core.Path.{◌≡◌, refl, sym, ap, ◌∙◌}
use mathlib.Core.Bool.{Bool, true, false, cond, ◌&&◌, true≢false}
use mathlib.Core.List.{List}
use Prim.Native.Nat.{ℕ}
use native.Mathlib.Omega.{arith}
use lib.Dec.{eqb}
use lib.ListN.{length}
use borrow.Author.Tests.{eqb-true}
use Rattle.meaning.specs.declared.SetType.{SetType}
use Rattle.meaning.specs.declared.SetType.TheVariants.{T6300, T6301, T6302, T6310, T6311}
use Rattle.meaning.specs.Limits.{type_of, type_number}
use Rattle.meaning.specs.Digits.{digits, number, all_digits}
use Rattle.meaning.specs.Rules.{type_named, is_known}
use Rattle.meaning.proofs.Bools.{and_left, and_right}
use Rattle.meaning.proofs.DigitLaws.{digits_number}
use Rattle.meaning.specs.Results.{Known}
use Rattle.std.specs.Prelude.{None, Some}

pub known-type : (k : Known) → is_known k ≡ true → (t : SetType) × (k ≡ Some t)
known-type (Some t) e = (t, refl)
known-type None e = absurd (true≢false (sym e))

pub of-same : {a b : SetType} → ◌≡◌ {A = Known} (Some a) (Some b) → a ≡ b
of-same e = cc

nothing-of {ℓ} : {X : Type ℓ} {a : SetType} → ◌≡◌ {A = Known} None (Some a) → X
nothing-of e = let z : ◌≡◌ {A = ℕ} 0 1 = cc in absurd (omega arith)

type-number : (n : ℕ) (t : SetType) → type_of n ≡ Some t → n ≡ type_number t
unfolding type_of
type-number n t e = go (eqb n 6300) (eqb n 6301) (eqb n 6302) (eqb n 6310) (eqb n 6311) refl refl refl refl refl e
  where
    go : (a b c d f : Bool) → eqb n 6300 ≡ a → eqb n 6301 ≡ b → eqb n 6302 ≡ c → eqb n 6310 ≡ d → eqb n 6311 ≡ f
        → cond a (Some T6300) (cond b (Some T6301) (cond c (Some T6302) (cond d (Some T6310) (cond f (Some T6311) None)))) ≡ Some t → n ≡ type_number t
    go true b c d f p q r s u x = eqb-true n 6300 p ∙ ap type_number (of-same x)
    go false true c d f p q r s u x = eqb-true n 6301 q ∙ ap type_number (of-same x)
    go false false true d f p q r s u x = eqb-true n 6302 r ∙ ap type_number (of-same x)
    go false false false true f p q r s u x = eqb-true n 6310 s ∙ ap type_number (of-same x)
    go false false false false true p q r s u x = eqb-true n 6311 u ∙ ap type_number (of-same x)
    go false false false false false p q r s u x = nothing-of x

pub type-digits : (c : List ℕ) (t : SetType) → type_named c ≡ Some t → c ≡ digits 4 (type_number t)
unfolding type_named
type-digits c t e = go (eqb (length c) 4 && all_digits c) refl e
  where
    go : (b : Bool) → eqb (length c) 4 && all_digits c ≡ b → cond b (type_of (number c)) None ≡ Some t → c ≡ digits 4 (type_number t)
    go true p q =
        let l : length c ≡ 4 = eqb-true _ _ (and_left (eqb (length c) 4) _ p) in
        sym (rw l at (digits_number c (and_right (eqb (length c) 4) _ p))) ∙ ap (digits 4) (type-number (number c) t q)
    go false p q = nothing-of q

pub type-named : (t : SetType) → type_named (digits 4 (type_number t)) ≡ Some t
unfolding type_named type_of
type-named T6300 = refl
type-named T6301 = refl
type-named T6302 = refl
type-named T6310 = refl
type-named T6311 = refl
