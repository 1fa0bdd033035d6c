-- What the search for a byte under 20h means: the first fault of these bytes. What it does step by step is in SeekLaws.
use mathlib.Core.Path.{◌≡◌, refl}
use mathlib.Core.Bool.{cond}
use mathlib.Core.List.{List, [], ◌∷◌}
use Prim.Native.Nat.{ℕ, ◌+◌, ◌≤◌}
use lib.Dec.{leb}
use lib.ListN.{length, take, drop}
use Rattle.meaning.specs.Refusals.{Fault, at_byte, bad_byte}
use Rattle.meaning.specs.Lines.{least_byte, low_bytes}
use Rattle.byte_low.specs.Low.{first_low}
use Rattle.byte_low.proofs.SeekLaws.{seek_is}

-- what is made of the faults, if the first alone counts there (`by`), is made of the offset of the first byte under 20h (`low`); the content stands at offset p
module _ {A : Type 0} (by : List Fault → A) (low : ℕ → A) (line p : ℕ) (first : (i : ℕ) (xs : List Fault) → by (at_byte bad_byte line i ∷ xs) ≡ low (p + i)) where
  pub low-is : (s : List ℕ) (k a i : ℕ) → a ≡ p + i → a + k ≤ length s
      → cond (leb (a + k) (first_low s a k)) (by []) (low (first_low s a k)) ≡ by (low_bytes line i (take k (drop a s)))
  low-is = seek_is (leb least_byte) by low bad_byte line p (λ i bs. low_bytes line i bs) (λ i. refl) (λ i b bs. refl) first
