-- The walk of a search among bytes for the first one that fails a test, whatever the test is.
use Rattle.std.specs.Prelude.{◌≡◌, Bool, cond, List, ℕ, zero, suc, ◌+◌, ◌-◌, ◌≤◌, get_or}

-- the offset of the first byte that fails the test among the k bytes at an offset, or the offset after them
unfoldable pub first_not : (ℕ → Bool) → List ℕ → ℕ → ℕ → ℕ
first_not ok s at zero = at
first_not ok s at (suc k) = cond (ok (get_or s at 0)) (first_not ok s (at + 1) k) at

-- a block of bytes that are tested at once has no more than these
abbrev pub longest : ℕ
longest = 64

-- a search from an offset on may be taken up at i, which is not over the end: each byte before passes
pub record Passed (ok : ℕ → Bool) (s : List ℕ) (at i end : ℕ) : Type 0 where
  pub least : at ≤ i
  pub most : i ≤ end
  pub none : first_not ok s at (i - at) ≡ i
