-- What the search for a byte over 7Fh means: the first fault of these bytes. What it does step by step is in SeekLaws of `byte_low`.
use mathlib.Core.Path.{◌≡◌, refl, sym, ap, ◌∙◌}
use mathlib.Core.Bool.{Bool, true, false, cond}
use mathlib.Core.List.{List, [], ◌∷◌}
use Prim.Native.Nat.{ℕ, zero, suc, ◌+◌, ◌-◌, ◌≤◌}
use native.Mathlib.Omega.{arith}
use lib.Dec.{leb}
use lib.ListN.{length, get_or, take, drop}
use Rattle.meaning.specs.Refusals.{Fault, at_byte, high_byte}
use Rattle.meaning.specs.Lines.{high_bytes}
use Rattle.byte_low.specs.Seek.{first_not}
use Rattle.byte_low.proofs.SeekLaws.{seek_is, seek-most, seek-on}
use Rattle.byte_high.specs.High.{seven_bits, first_high, plain_front}

-- what is made of the faults, if the first alone counts there (`by`), is made of the offset of the first byte over 7Fh (`high`); the content stands at offset p
module _ {A : Type 0} (by : List Fault → A) (high : ℕ → A) (line p : ℕ) (first : (i : ℕ) (xs : List Fault) → by (at_byte high_byte line i ∷ xs) ≡ high (p + i)) where
  pub high_is : (s : List ℕ) (k a i : ℕ) → a ≡ p + i → a + k ≤ length s
      → cond (leb (a + k) (first_high s a k)) (by []) (high (first_high s a k)) ≡ by (high_bytes line i (take k (drop a s)))
  high_is = seek_is seven_bits by high high_byte line p (λ i bs. high_bytes line i bs) (λ i. refl) (λ i b bs. refl) first

-- ---- the bytes in front of the first one over 7Fh have none

high-least : (s : List ℕ) (k at : ℕ) → at ≤ first_high s at k
unfolding first_not
high-least s zero at = omega arith
high-least s (suc k) at = go (seven_bits (get_or s at 0)) (high-least s k (at + 1))
  where
    go : (b : Bool) → at + 1 ≤ first_high s (at + 1) k → at ≤ cond b (first_high s (at + 1) k) at
    go true h = omega arith
    go false h = omega arith

none_before : (s : List ℕ) (k at r : ℕ) → r ≡ first_high s at k → first_high s at (r - at) ≡ r
unfolding first_not
none_before s zero at r e =
    let n : r - at ≡ 0 = omega arith in
    rw n (sym e)
none_before s (suc k) at r e = go (seven_bits (get_or s at 0)) refl e (none_before s k (at + 1) r)
  where
    go : (b : Bool) → seven_bits (get_or s at 0) ≡ b → r ≡ cond b (first_high s (at + 1) k) at → (r ≡ first_high s (at + 1) k → first_high s (at + 1) (r - (at + 1)) ≡ r)
        → first_high s at (r - at) ≡ r
    go true q h ih =
        let n : r - at ≡ suc (r - (at + 1)) = omega (arith, high-least s k (at + 1), h) in
        rw (n, q) (ih h)
    go false q h ih =
        let n : r - at ≡ 0 = omega arith in
        rw n (sym h)

pub front-most : (s : List ℕ) (r : ℕ) → r ≡ plain_front s → r ≤ length s
front-most s r e = omega (arith, e, seek-most seven_bits s (length s) 0)

pub front-plain : (s : List ℕ) (r : ℕ) → r ≡ plain_front s → first_high s 0 r ≡ r
front-plain s r e = ap (first_high s 0) (omega arith) ∙ none_before s (length s) 0 r e

-- the search goes on after bytes that have none
pub front-after : (s : List ℕ) (from : ℕ) → from ≤ length s → first_high s 0 (from - 0) ≡ from → first_high s from (length s - from) ≡ plain_front s
front-after s from h e =
    let n : from ≡ 0 + (from - 0) = omega arith in
    ap (λ (i : ℕ). first_high s i (length s - i)) n
    ∙ (sym (seek-on seven_bits s (from - 0) 0 (length s) (omega arith) (e ∙ n)) ∙ ap (first_high s 0) (omega arith))
