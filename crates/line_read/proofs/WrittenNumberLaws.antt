-- What the bytes from an index on write after a number, byte by byte; and that all of them write what `number_at` is.
use mathlib.Core.Path.{◌≡◌, sym, ap, ◌∙◌}
use mathlib.Core.Bool.{true, false}
use mathlib.Core.List.{List}
use Prim.Native.Nat.{ℕ, ◌+◌, ◌-◌, ◌*◌, ◌^◌, ◌≤◌, ◌<◌}
use native.Mathlib.Omega.{arith}
use native.Mathlib.Nat.{pow-suc, pow-le-pow_right}
use native.Mathlib.Numerals.{add-one}
use lib.Dec.{lit<}
use lib.Seq.{get_or-drop, get_or-take}
use lib.ListN.{length, get_or, take, drop, length-drop, length-take}
use Rattle.std.proofs.Common.{Fits, w8, drop_of_length-le, slice_range, take_all}
use Rattle.meaning.specs.Digits.{digit_zero, digit, all_digits, number_from}
use Rattle.meaning.specs.Lines.{label_digits}
use Rattle.meaning.proofs.Bools.{byte-then}
use Rattle.line_read.specs.Number.{number_at, most_digits, Number}
use Rattle.line_read.specs.Told.{bytes_from}
use Rattle.line_read.proofs.LineMeaning.{as_number, digits_are}
use Rattle.line_read.proofs.LineWalkLaws.{number-there}
use Rattle.std.specs.Prelude.{None, Some}

-- what the bytes from index i on write after digits that wrote n
abbrev pub written : List ℕ → ℕ → ℕ → Number
written b n i = as_number (all_digits (drop i b)) (number_from n (drop i b))

module _ (b : List ℕ) (n i : ℕ) where
  pub written-wrong : i < length b → digit (get_or b i 0) ≡ false → written b n i ≡ None
  written-wrong h e = rw (byte-then b i h, e)

  pub written-further : i < length b → digit (get_or b i 0) ≡ true → written b n i ≡ written b (n * 10 + (get_or b i 0 - digit_zero)) (i + 1)
  written-further h e = rw (byte-then b i h, e)

  pub written-end : length b ≤ i → written b n i ≡ Some n
  written-end h = rw (drop_of_length-le b h)

pub written-all : (s t b : List ℕ) (at k : ℕ) → k ≤ most_digits → at ≤ length s → t ≡ slice_range s at (length s) → k ≤ length t → b ≡ slice_range t 0 k
    → written b 0 0 ≡ number_at s at k
written-all s t b at k h l e g f =
    let w : t ≡ drop at s = e ∙ take_all (length s - at) (drop at s) (omega (arith, length-drop at s)) in
    let r : at + k ≤ length s = omega (arith, ap length w, length-drop at s) in
    let z : k - 0 ≡ k = omega arith in
    rw (f, w, z) (sym (digits_are s k at 0 r)) ∙ sym (number-there s at k h r)

-- ---- bytes that nothing tests

-- of up to four bytes the number has room for one byte more
pub bytes-small : (n i : ℕ) → i ≤ label_digits → n * 9 + 256 ≤ 256 * 10 ^ i → n < 300000
bytes-small n i h b =
    let p : 10 ^ i ≤ 10000 = pow-le-pow_right (lit< tt) h in
    omega arith

pub bytes-grow : (n d i : ℕ) → n * 9 + 256 ≤ 256 * 10 ^ i → d < 256 → (n * 10 + d) * 9 + 256 ≤ 256 * 10 ^ (i + 1)
bytes-grow n d i b g = rw (add-one, pow-suc) (omega arith)

pub byte-small : (s : List ℕ) (at n i : ℕ) → ((j : ℕ) → Fits w8 (get_or s j 0)) → i < length (take n (drop at s)) → get_or (take n (drop at s)) i 0 < 256
byte-small s at n i h l =
    let k : i < n = omega (arith, length-take n (drop at s)) in
    rw (get_or-take n (drop at s) i 0 k, get_or-drop at s i 0) (omega (arith, h (at + i)))

module _ (b : List ℕ) (n i : ℕ) where
  pub bytes-further : i < length b → bytes_from n (drop i b) ≡ bytes_from (n * 10 + get_or b i 0) (drop (i + 1) b)
  bytes-further h = rw (byte-then b i h)

  -- no byte left: this is what all of them come to
  pub bytes-all : i ≤ length b → length b ≤ i → n * 9 + 256 ≤ 256 * 10 ^ i → bytes_from n (drop i b) ≡ bytes_from 0 b
      → (n ≡ bytes_from 0 b) × (n * 9 < 256 * 10 ^ length b)
  bytes-all h g m e =
      let q : i ≡ length b = omega arith in
      let a = rw (drop_of_length-le b g) at e in
      let r = rw q at m in
      (a, omega arith)
