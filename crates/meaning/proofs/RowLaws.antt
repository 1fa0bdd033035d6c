-- One test over the rows of a table: the row that is found for a label passes what every row passes.
use mathlib.Core.Path.{◌≡◌, refl, sym, subst}
use mathlib.Core.Bool.{Bool, true, false, cond, ◌&&◌}
use mathlib.Core.List.{List, [], ◌∷◌}
use mathlib.Core.Option.{Option, none, some}
use Prim.Native.Nat.{ℕ}
use native.Mathlib.Omega.{arith}
use lib.Dec.{eqb}
use borrow.Author.Tests.{eqb-true}
use Rattle.meaning.specs.declared.Row.{Row}
use Rattle.meaning.specs.Tables.{find_in}
use Rattle.meaning.proofs.Bools.{and_left, and_right}

-- every row passes a test
abbrev pub all_rows : (Row → Bool) → List Row → Bool
all_rows test [] = true
all_rows test (r ∷ rs) = test r && all_rows test rs

pub some_same : {A : Type 0} {a b : A} → ◌≡◌ {A = Option A} (some a) (some b) → a ≡ b
some_same e = cc

pub none-some {ℓ} : {X : Type ℓ} {A : Type 0} {a : A} → ◌≡◌ {A = Option A} none (some a) → X
none-some e = let z : ◌≡◌ {A = ℕ} 0 1 = cc in absurd (omega arith)

-- the row that is found has the label asked for, and passes what all rows pass
pub found : (test : Row → Bool) (rs : List Row) (l : ℕ) (r : Row) → find_in rs l ≡ some r → all_rows test rs ≡ true → (test r ≡ true) × (r.label ≡ l)
unfolding find_in
found test [] l r e a = none-some e
found test (x ∷ xs) l r e a = go (λ q. found test xs l r q (and_right (test x) _ a)) (eqb l x.label) refl e
  where
    go : (find_in xs l ≡ some r → (test r ≡ true) × (r.label ≡ l)) → (b : Bool) → eqb l x.label ≡ b → cond b (some x) (find_in xs l) ≡ some r
        → (test r ≡ true) × (r.label ≡ l)
    go ih true p q =
        let s : x ≡ r = some_same q in
        (subst (λ (y : Row). test y ≡ true) s (and_left (test x) _ a), subst (λ (y : Row). y.label ≡ l) s (sym (eqb-true _ _ p)))
    go ih false p q = ih q
