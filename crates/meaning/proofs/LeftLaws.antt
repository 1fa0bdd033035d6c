-- What is left of a count of e when i are done: e - i.
use mathlib.Core.Path.{◌≡◌}
use Prim.Native.Nat.{ℕ, suc, ◌+◌, ◌-◌, ◌≤◌, ◌<◌}
use native.Mathlib.Omega.{arith}

-- one more than after the next one
pub one-more : {i e : ℕ} → i < e → e - i ≡ suc (e - (i + 1))
one-more h = omega arith

-- nothing when all are done
pub none_left : {i e : ℕ} → e ≤ i → e - i ≡ 0
none_left h = omega arith
