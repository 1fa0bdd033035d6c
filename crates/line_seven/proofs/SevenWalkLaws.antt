-- What each `return` of the walks has to show.
use mathlib.Core.Path.{◌≡◌, refl}
use mathlib.Core.Bool.{Bool, true, false, cond}
use mathlib.Core.List.{List}
use Prim.Native.Nat.{ℕ, ◌≤◌, ◌<◌}
use native.Mathlib.Omega.{arith}
use lib.Dec.{eqb}
use lib.ListN.{length, take, get_or, get_or-eq_default}
use lib.Seq.{length-take-le}
use borrow.Author.Tests.{le-leb, lt-leb, eq-eqb, ne_eqb}
use Rattle.meaning.specs.Refusals.{refusal, high_byte}
use Rattle.meaning.specs.Answers.{no_refusal}
use Rattle.byte_low.proofs.SeekLaws.{seek-most}
use Rattle.byte_high.specs.High.{seven_bits, first_high}
use Rattle.line_find.specs.FirstPlace.{first_place}
use Rattle.line_seven.specs.Seven.{seven_bits_digit, says_seven, high_for, high_in_set}

-- ---- 9206 = 1

module _ (s : List ℕ) (place : ℕ) (e : place ≡ first_place s 9206) where
  pub says_none : place ≡ 0 → false ≡ says_seven s
  unfolding says_seven
  says_none z = rw (← e, eq-eqb place 0 z)

  module _ (n : place ≡ 0 → ⊥) where
    pub says-cut : length s ≤ place → false ≡ says_seven s
    unfolding says_seven
    says-cut h = rw (← e, ne_eqb place 0 n, get_or-eq_default s 0 h)

    pub says-digit : eqb (get_or s place 0) seven_bits_digit ≡ says_seven s
    unfolding says_seven
    says-digit = rw (← e, ne_eqb place 0 n)

-- ---- the first byte over 7Fh, if the set says seven bits

module _ (s b : List ℕ) (high : ℕ) (q : high ≡ first_high b 0 (length b)) where
  pub for-found : says_seven s ≡ true → high ≡ high_for s b
  unfolding high_for
  for-found e = rw e q

  pub for-eight : says_seven s ≡ false → length b ≡ high_for s b
  unfolding high_for
  for-eight e = rw e

  pub for-none : length b ≤ high → length b ≡ high_for s b
  unfolding high_for
  for-none h = go (says_seven s)
    where
      over : length b ≡ first_high b 0 (length b)
      over = omega (arith, h, q, seek-most seven_bits b (length b) 0)

      go : (x : Bool) → length b ≡ cond x (first_high b 0 (length b)) (length b)
      go true = over
      go false = refl

-- ---- 24 in the set that ends at an offset

module _ (s : List ℕ) (end : ℕ) (w : end ≤ length s) (high : ℕ) (q : high ≡ high_for (take end s) (take end s)) where
  pub high-found : high < end → refusal high_byte high 0 ≡ high_in_set (take end s)
  unfolding high_in_set
  high-found h = rw (← q, length-take-le end s w, lt-leb end high h)

  pub high-none : end ≤ high → no_refusal ≡ high_in_set (take end s)
  unfolding high_in_set
  high-none h = rw (← q, length-take-le end s w, le-leb end high h)
