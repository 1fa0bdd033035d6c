-- Whether a block is the last one, asked without a sum.
use mathlib.Core.Path.{◌≡◌, refl, sym}
use mathlib.Core.Bool.{Bool, true, false}
use Prim.Native.Nat.{ℕ, ◌+◌, ◌-◌}
use native.Mathlib.Omega.{arith}
use lib.Dec.{leb}
use borrow.Author.Tests.{le-leb, lt-leb, leb-true, leb-false}

pub one_less : (n i : ℕ) → leb (n - 1) i ≡ leb n (i + 1)
one_less n i = go (leb (n - 1) i) refl
  where
    go : (b : Bool) → leb (n - 1) i ≡ b → b ≡ leb n (i + 1)
    go true e = let h = leb-true (n - 1) i e in sym (le-leb n (i + 1) (omega arith))
    go false e = let h = leb-false (n - 1) i e in sym (lt-leb n (i + 1) (omega arith))
