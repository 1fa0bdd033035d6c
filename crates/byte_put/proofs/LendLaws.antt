-- What a caller has of a buffer: bytes put after bytes that stand, and the part `&mut b[a..]`, lent and come back.
use mathlib.Core.Path.{◌≡◌, refl}
use mathlib.Core.List.{List, ◌++◌, append-nil}
use Prim.Native.Nat.{ℕ, ◌+◌, ◌-◌, ◌≤◌}
use native.Mathlib.Omega.{arith}
use lib.ListN.{length, take, drop, length-drop, length-append, drop_of_length-le}
use lib.Seq.{take_all, take_at, drop-append-add, length-take-le}
use borrow.Rule.Slice.PartMut.{mid_of, put_mid}
use Rattle.byte_put.specs.Places.{over}

-- bytes put right after those of p
pub over-after : (p x r : List ℕ) (at : ℕ) → length p ≡ at → over at x (p ++ r) ≡ p ++ (x ++ drop (length x) r)
unfolding over
over-after p x r at e =
    rw (take_at p r at e, ← e, drop-append-add p r (length x)) refl

pub length_over : (x b : List ℕ) (at : ℕ) → at + length x ≤ length b → length (over at x b) ≡ length b
unfolding over
length_over x b at h =
    omega (
      arith,
      length-append (take at b) (x ++ drop (at + length x) b),
      length-append x (drop (at + length x) b),
      length-take-le at b (omega arith),
      length-drop (at + length x) b,
    )

-- what the callee is lent of `&mut b[a..]`
pub mid-tail : (b : List ℕ) (a : ℕ) → mid_of a (length b - a) b ≡ drop a b
mid-tail b a = take_all (length b - a) (drop a b) (omega (arith, length-drop a b))

-- what comes back
pub put-tail : (b y : List ℕ) (a : ℕ) → put_mid a (length b - a) b y ≡ take a b ++ y
put-tail b y a =
    rw (drop_of_length-le (drop a b) {i = length b - a} (omega (arith, length-drop a b)), append-nil y) refl
