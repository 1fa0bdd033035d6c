-- What the last arm of a `match` on a label knows: the label is none of those of the arms before it.
use mathlib.Core.Path.{◌≡◌}
use mathlib.Core.List.{List, [], ◌∷◌}
use Prim.Native.Nat.{ℕ}

-- that it knows, beside A
abbrev pub NoneOf : Type 0 → ℕ → List ℕ → Type 0
NoneOf A l [] = A
NoneOf A l (k ∷ ks) = NoneOf (A × (l ≡ k → ⊥)) l ks

-- A itself
pub none_beside : (A : Type 0) (l : ℕ) (ks : List ℕ) → NoneOf A l ks → A
none_beside A l [] h = h
none_beside A l (k ∷ ks) h = (none_beside (A × (l ≡ k → ⊥)) l ks h).0
