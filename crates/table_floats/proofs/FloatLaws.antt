-- What each test of the code says of the definitions: one law for each way that a test can end.
-- The code goes by offsets and the definitions by lists, so most laws speak of what is left from an offset on.
use mathlib.Core.Path.{◌≡◌, refl}
use mathlib.Core.Bool.{Bool, true, false}
use mathlib.Core.List.{List, [], ◌∷◌}
use Prim.Native.Nat.{ℕ, ◌+◌, ◌≤◌, ◌<◌}
use native.Mathlib.Numerals.{add-one}
use native.Mathlib.Omega.{arith}
use lib.ListN.{length, get_or, drop, drop_of_length-le}
use lib.Seq.{drop-cons}
use borrow.Author.Tests.{ne_eqb}
use Rattle.meaning.specs.Digits.{digit, all_digits}
use Rattle.meaning.specs.Kinds.{point, minus, decimals, whole, unsigned, is_float}

-- ---- what is left from an offset on

-- if a byte is left: what it being a digit, a point or neither means for the rest
module _ (c : List ℕ) (i : ℕ) (h : i < length c) where
  pub decimals-some : decimals (drop i c) ≡ all_digits (drop i c)
  unfolding decimals
  decimals-some = rw (drop-cons c i 0)

  pub whole-more : digit (get_or c i 0) ≡ true → whole (drop i c) ≡ whole (drop (i + 1) c)
  unfolding whole
  whole-more e = rw (add-one, drop-cons c i 0, e)

  pub whole-point : get_or c i 0 ≡ point → whole (drop i c) ≡ decimals (drop (i + 1) c)
  unfolding whole
  whole-point e = rw (add-one, drop-cons c i 0, e)

  pub whole-stop : digit (get_or c i 0) ≡ false → (get_or c i 0 ≡ point → ⊥) → whole (drop i c) ≡ false
  unfolding whole
  whole-stop e n = rw (drop-cons c i 0, e, ne_eqb (get_or c i 0) point n)

  pub unsigned-more : digit (get_or c i 0) ≡ true → unsigned (drop i c) ≡ whole (drop (i + 1) c)
  unfolding unsigned
  unsigned-more e = rw (add-one, drop-cons c i 0, e)

  pub unsigned-stop : digit (get_or c i 0) ≡ false → unsigned (drop i c) ≡ false
  unfolding unsigned
  unsigned-stop e = rw (drop-cons c i 0, e)

-- if no byte is left
module _ (c : List ℕ) (i : ℕ) (h : length c ≤ i) where
  pub decimals-none : decimals (drop i c) ≡ false
  unfolding decimals
  decimals-none = rw (drop_of_length-le c h)

  pub whole-end : whole (drop i c) ≡ true
  unfolding whole
  whole-end = rw (drop_of_length-le c h)

  pub unsigned-none : unsigned (drop i c) ≡ false
  unfolding unsigned
  unsigned-none = rw (drop_of_length-le c h)

-- ---- floats

-- after a minus the rest has no sign
pub float-minus : (c : List ℕ) → get_or c 0 0 ≡ minus → is_float c ≡ unsigned (drop 1 c)
unfolding is_float unsigned
float-minus [] e = refl
float-minus (b ∷ c) e = rw e

-- without a minus the whole has none
pub float_plain : (c : List ℕ) → (get_or c 0 0 ≡ minus → ⊥) → is_float c ≡ unsigned (drop 0 c)
unfolding is_float unsigned
float_plain [] e = refl
float_plain (b ∷ c) e = rw (ne_eqb b minus e)
