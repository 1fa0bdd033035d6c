-- The walks of specs/ step by step: one law for each way that the code takes.
use mathlib.Core.Path.{◌≡◌, refl}
use mathlib.Core.Bool.{Bool, true, false, cond, ◌&&◌}
use mathlib.Core.List.{List}
use Prim.Native.Nat.{ℕ, ◌+◌, ◌*◌, ◌^◌, ◌≤◌, ◌<◌}
use native.Mathlib.Omega.{arith}
use native.Mathlib.Numerals.{add-one}
use native.Mathlib.Nat.{pow-suc, pow-le-pow_right, lt_of_lt_of_le}
use Rattle.std.proofs.Common.{drop_of_length-le}
use lib.Dec.{leb, lit<}
use lib.ListN.{length, get_or, drop}
use borrow.Author.Tests.{leb-true, leb-false, le-leb, lt-leb, eq-eqb, ne_eqb}
use Rattle.meaning.specs.Digits.{digit, all_digits}
use Rattle.meaning.specs.Refusals.{refusal, bad_length}
use Rattle.meaning.specs.Lines.{min_line_bytes}
use Rattle.meaning.proofs.Bools.{and_right, byte-then}
use Rattle.line_read.specs.Number.{number_after, number_at, most_digits}
use Rattle.line_read.specs.Line.{must, sized_line}
use Rattle.std.specs.Prelude.{Err, None, Some}

-- what a branch of the code knows, as the tests of the walks have it
pub ruleset tests = (le-leb, lt-leb, eq-eqb, ne_eqb)

-- ---- numbers, with no line in them

-- a number of at most eight digits has room for one more digit
pub digits-small : {n j : ℕ} → j ≤ 8 → n < 10 ^ j → n < 100000000
digits-small h b = lt_of_lt_of_le b (pow-le-pow_right (lit< tt) h)

-- a number has one digit more after the next one
pub digits-grow : (n d i : ℕ) → n < 10 ^ i → d ≤ 9 → n * 10 + d < 10 ^ (i + 1)
digits-grow n d i b g = rw (add-one, pow-suc) (omega arith)

-- ---- a number: no number if the bytes are too many or not all there, else their digits

module _ (s : List ℕ) (at k : ℕ) where
  pub number-long : most_digits < k → number_at s at k ≡ None
  unfolding number_at
  number-long h = search tests

  pub number_cut : k ≤ most_digits → length s < at + k → number_at s at k ≡ None
  unfolding number_at
  number_cut g h = search tests

  pub number-there : k ≤ most_digits → at + k ≤ length s → number_at s at k ≡ number_after s 0 at k
  unfolding number_at
  number-there g h = search tests

  -- the bytes of a number that was read are there
  pub number-within : {n : ℕ} → number_at s at k ≡ Some n → at + k ≤ length s
  unfolding number_at
  number-within {n} e = go (leb k most_digits && leb (at + k) (length s)) refl e
    where
      go : (b : Bool) → leb k most_digits && leb (at + k) (length s) ≡ b → cond b (number_after s 0 at k) None ≡ Some n → at + k ≤ length s
      go true q h = leb-true (at + k) (length s) (and_right (leb k most_digits) _ q)
      go false q h = let z : ◌≡◌ {A = ℕ} 0 1 = cc in absurd (omega arith)

-- whether all bytes are digits: one that is, no byte left
module _ (b : List ℕ) (i : ℕ) where
  pub digits-further : i < length b → digit (get_or b i 0) ≡ true → all_digits (drop (i + 1) b) ≡ all_digits (drop i b)
  digits-further h d = rw (byte-then b i h, d)

  pub digits-done : length b ≤ i → true ≡ all_digits (drop i b)
  digits-done h = rw (drop_of_length-le b h)

-- ---- a line, by its length

pub line-short : (s : List ℕ) (at n : ℕ) → n < min_line_bytes → sized_line s at n ≡ Err (refusal bad_length at 0)
unfolding must sized_line
line-short s at n h = search tests
