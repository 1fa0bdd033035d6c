-- The parts of a block put one after the other are the block: what each `return` has to show.
use mathlib.Core.Path.{◌≡◌, refl, sym, ap, ap₂, ◌∙◌}
use mathlib.Core.List.{List, [], ◌∷◌, ◌++◌, append_assoc}
use Prim.Native.Nat.{ℕ, suc, ◌+◌, ◌-◌, ◌/◌, ◌%◌, ◌≤◌}
use native.Mathlib.Omega.{arith}
use native.Mathlib.Nat.{zero-add}
use lib.ListN.{length, set, take, drop, replicate, length-append}
use lib.Seq.{take_at, drop-drop}
use borrow.Rule.Slice.PartMut.{mid_of, post_of, put_mid}
use Rattle.meaning.specs.Refusals.{done}
use Rattle.meaning.specs.Lines.{cr}
use Rattle.meaning.specs.Answers.{bytes_left}
use Rattle.meaning_cable.specs.Crc.{crc}
use Rattle.meaning_cable.specs.Blocks.{hex_digit, hex_digits, block_front, block_bytes}
use Rattle.byte_put.specs.Places.{over}
use Rattle.byte_put.proofs.OverLaws.{over-then, front-then-zeros}

-- ---- the parts

-- bytes that are lent at an offset, and come back as others
pub lent-put : (b x y : List ℕ) (n k : ℕ) → length x ≡ k → y ≡ x → take n b ++ (y ++ post_of n k b) ≡ over n x b
unfolding over
lent-put b x y n k l e = rw (e, l) (ap (λ (u : List ℕ). take n b ++ (x ++ u)) (drop-drop k n b))

-- CRC and 0Dh
pub crc-put : (b y : List ℕ) (n k m c d e f : ℕ) → k ≡ 5 → m ≡ crc (take n b)
    → c ≡ hex_digit (m / 4096 % 16) → d ≡ hex_digit (m / 256 % 16) → e ≡ hex_digit (m / 16 % 16) → f ≡ hex_digit (m % 16) → y ≡ c ∷ d ∷ e ∷ f ∷ cr ∷ []
    → take n b ++ (y ++ post_of n k b) ≡ over n (hex_digits (crc (take n b)) ++ (cr ∷ [])) b
crc-put b y n k m c d e f z q p₁ p₂ p₃ p₄ h =
    lent-put b (c ∷ d ∷ e ∷ f ∷ cr ∷ []) y n k (sym z) h
    ∙ ((λ i. over n (p₁ i ∷ p₂ i ∷ p₃ i ∷ p₄ i ∷ cr ∷ []) b) ∙ ap (λ (j : ℕ). over n (hex_digits j ++ (cr ∷ [])) b) q)

-- ---- a block

over-front : (x b : List ℕ) → over 0 x b ≡ x ++ drop (length x) b
unfolding over
over-front x b = ap (λ (m : ℕ). x ++ drop m b) (zero-add (length x))

module _ (count label : ℕ) (x : List ℕ) where
  abbrev front : List ℕ
  front = block_front count label x

  abbrev tail : List ℕ
  tail = hex_digits (crc front) ++ (cr ∷ [])

  whole : front ++ tail ≡ block_bytes count label x
  unfolding block_bytes
  whole = refl

  pub block-length : length (block_bytes count label x) ≡ 4 + length x + 5
  block-length = ap length (sym whole) ∙ (length-append front tail ∙ omega arith)

  -- Count and label, the data after them, CRC and 0Dh after these, and zeros in the rest.
  pub block-put : (b b₁ b₂ b₃ y : List ℕ) (n : ℕ) → n ≡ length x → 4 + n + 5 ≤ length b
      → b₁ ≡ over 0 (block_front count label []) b
      → b₂ ≡ over 4 x b₁
      → b₃ ≡ over (4 + n) (hex_digits (crc (take (4 + n) b₂)) ++ (cr ∷ [])) b₂
      → y ≡ replicate (length (mid_of (4 + n + 5) (length b₃ - (4 + n + 5)) b₃)) 0
      → (4 + n + 5 ≡ length (block_bytes count label x))
      × (put_mid (4 + n + 5) (length b₃ - (4 + n + 5)) b₃ y ≡ bytes_left (done (block_bytes count label x)) b)
  block-put b b₁ b₂ b₃ y n l h e₁ e₂ e₃ z =
      let four : List ℕ = block_front count label [] in
      let n₂ : length front ≡ 4 + n = omega arith in
      let n₃ : length (front ++ tail) ≡ 4 + n + 5 = length-append front tail ∙ omega arith in
      let a₂ : b₂ ≡ over 0 front b = e₂ ∙ (ap (over 4 x) e₁ ∙ over-then b 0 four x (omega arith)) in
      let t : take (4 + n) b₂ ≡ front = ap (take (4 + n)) (a₂ ∙ over-front front b) ∙ take_at front (drop (length front) b) (4 + n) n₂ in
      let k : 0 + length front ≡ 4 + n = omega arith in
      let a₃ : b₃ ≡ over 0 (block_bytes count label x) b =
      e₃ ∙ (ap₂ (λ (u v : List ℕ). over (4 + n) (hex_digits (crc u) ++ (cr ∷ [])) v) t a₂
      ∙ (ap (λ (m : ℕ). over m tail (over 0 front b)) (sym k) ∙ (over-then b 0 front tail (omega (arith, n₃)) ∙ ap (λ (u : List ℕ). over 0 u b) whole))) in
      let q : 4 + n + 5 ≡ length (block_bytes count label x) = omega (arith, block-length) in
      (q, front-then-zeros b b₃ y (block_bytes count label x) (4 + n + 5) a₃ q z)
