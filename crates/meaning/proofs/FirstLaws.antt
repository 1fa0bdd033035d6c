-- The first fault of a list as a refusal, and of two lists one after the other; the first of two refusals.
use mathlib.Core.Path.{◌≡◌, refl, sym, ap, ◌∙◌}
use mathlib.Core.Bool.{Bool, true, false, cond}
use mathlib.Core.List.{List, [], ◌∷◌, ◌++◌}
use Prim.Native.Nat.{ℕ}
use lib.Dec.{eqb}
use lib.ListN.{take}
use borrow.Author.Tests.{eqb-true, eqb-false, ne_eqb}
use Rattle.meaning.specs.declared.Refusal.{Refusal}
use Rattle.meaning.specs.Refusals.{Spot, Fault, ask, refusal}
use Rattle.meaning.specs.Answers.{no_refusal, or_else}

-- the first fault, with places found by `pl`
abbrev pub first_of : (ℕ → Spot → ℕ) → List Fault → Refusal
first_of pl [] = no_refusal
first_of pl (x ∷ xs) = refusal x.no (pl x.line x.spot) x.label

-- the first fault has a number
abbrev pub Real : List Fault → Type 0
Real [] = Unit
Real (x ∷ xs) = x.no ≡ 0 → ⊥

pub first-append : (pl : ℕ → Spot → ℕ) (xs ys : List Fault) → Real xs → first_of pl (xs ++ ys) ≡ or_else (first_of pl xs) (first_of pl ys)
unfolding or_else
first-append pl [] ys h = refl
first-append pl (x ∷ xs) ys h = sym (rw (ne_eqb x.no 0 h))

pub real-append : (xs ys : List Fault) → Real xs → Real ys → Real (xs ++ ys)
real-append [] ys h g = g
real-append (x ∷ xs) ys h g = h

pub real-ask : (b : Bool) (x : Fault) → (x.no ≡ 0 → ⊥) → Real (ask b x)
real-ask true x h = tt
real-ask false x h = h

pub real-rule : (b : Bool) (x : Fault) (r : List Fault) → (x.no ≡ 0 → ⊥) → Real r → Real (ask b x ++ r)
real-rule true x r h g = g
real-rule false x r h g = h

-- a rule and those after it
pub first-rule : (pl : ℕ → Spot → ℕ) (b : Bool) (x : Fault) (r : List Fault)
    → first_of pl (ask b x ++ r) ≡ cond b (first_of pl r) (refusal x.no (pl x.line x.spot) x.label)
first-rule pl true x r = refl
first-rule pl false x r = refl

pub first-none : (pl : ℕ → Spot → ℕ) (xs : List Fault) → Real xs → (first_of pl xs).no ≡ 0 → xs ≡ []
first-none pl [] h e = refl
first-none pl (x ∷ xs) h e = absurd (h e)

-- the first of the first fault alone
pub first_one : (pl : ℕ → Spot → ℕ) (xs : List Fault) → first_of pl (take 1 xs) ≡ first_of pl xs
first_one pl [] = refl
first_one pl (x ∷ xs) = refl

pub or_assoc : (a b c : Refusal) → or_else a (or_else b c) ≡ or_else (or_else a b) c
unfolding or_else
or_assoc a b c = go (eqb a.no 0) refl
  where
    go : (x : Bool) → eqb a.no 0 ≡ x → cond x (cond (eqb b.no 0) c b) a ≡ cond (eqb (cond x b a).no 0) c (cond x b a)
    go true e = refl
    go false e = rw e

pub or-none : (a : Refusal) → or_else no_refusal a ≡ a
unfolding or_else
or-none a = refl

pub or-zero : (a b : Refusal) → a.no ≡ 0 → or_else a b ≡ b
unfolding or_else
or-zero a b e = rw e

pub or-bad : (a b : Refusal) → (a.no ≡ 0 → ⊥) → or_else a b ≡ a
unfolding or_else
or-bad a b e = rw (ne_eqb a.no 0 e)

-- what follows a refusal counts only if there is none
pub or-then : (a : Refusal) {x y : Refusal} → (a.no ≡ 0 → x ≡ y) → or_else a x ≡ or_else a y
or-then a {x} {y} h = go (eqb a.no 0) refl
  where
    go : (b : Bool) → eqb a.no 0 ≡ b → or_else a x ≡ or_else a y
    go true q = ap (or_else a) (h (eqb-true a.no 0 q))
    go false q = or-bad a x (eqb-false a.no 0 q) ∙ sym (or-bad a y (eqb-false a.no 0 q))
