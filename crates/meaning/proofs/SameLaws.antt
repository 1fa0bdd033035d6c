-- `same_bytes` is equality.
use mathlib.Core.Path.{◌≡◌, refl, sym}
use mathlib.Core.Bool.{true, true≢false}
use mathlib.Core.List.{List, [], ◌∷◌}
use Prim.Native.Nat.{ℕ}
use lib.Dec.{eqb}
use borrow.Author.Tests.{eqb-true, eq-eqb}
use Rattle.meaning.specs.Kinds.{same_bytes}
use Rattle.meaning.proofs.Bools.{and_left, and_right}

pub same-bytes : (c d : List ℕ) → same_bytes c d ≡ true → c ≡ d
unfolding same_bytes
same-bytes [] [] e = refl
same-bytes [] (y ∷ d) e = absurd (true≢false (sym e))
same-bytes (x ∷ c) [] e = absurd (true≢false (sym e))
same-bytes (x ∷ c) (y ∷ d) e =
    let p : x ≡ y = eqb-true x y (and_left (eqb x y) _ e) in
    rw (p, same-bytes c d (and_right (eqb x y) _ e)) refl

pub bytes_same : (c : List ℕ) → same_bytes c c ≡ true
unfolding same_bytes
bytes_same [] = refl
bytes_same (x ∷ c) = rw (eq-eqb x x refl) (bytes_same c)
