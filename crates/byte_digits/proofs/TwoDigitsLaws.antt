-- What two bytes count as: the number of a digit, and what no byte counts as.
use mathlib.Core.Path.{◌≡◌}
use mathlib.Core.Bool.{true}
use mathlib.Core.List.{List}
use Prim.Native.Nat.{ℕ, ◌-◌, ◌≤◌}
use native.Mathlib.Omega.{arith}
use lib.Dec.{leb}
use lib.ListN.{length, get_or-eq_default}
use borrow.Author.Tests.{leb-true}
use Rattle.meaning.specs.Digits.{digit}
use Rattle.meaning.specs.Kinds.{no_number, two_at}
use Rattle.meaning.proofs.Bools.{and_left, and_right}

-- a digit stands for 0 to 9
pub digit-counts : (b : ℕ) → digit b ≡ true → (48 ≤ b) × (b - 48 ≤ 9)
digit-counts b e =
    let low : 48 ≤ b = leb-true 48 b (and_left (leb 48 b) (leb b 57) e) in
    let high : b ≤ 57 = leb-true b 57 (and_right (leb 48 b) (leb b 57) e) in
    (low, omega arith)

-- if no byte is left there is no number
pub two-end : (c : List ℕ) (i : ℕ) → length c ≤ i → two_at c i ≡ no_number
unfolding two_at
two-end c i h = rw (get_or-eq_default c 0 {n = i} h)
