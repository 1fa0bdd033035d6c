-- What the first seven bytes of a line say: by `told_length` and `told_label` if the line is read, and that a line is read if they are digits and the rest is right.
use mathlib.Core.Path.{◌≡◌, refl, sym, ap, ◌∙◌}
use mathlib.Core.Bool.{Bool, true, false}
use mathlib.Core.List.{List, [], ◌∷◌}
use Prim.Native.Nat.{ℕ, zero, suc, ◌+◌, ◌-◌, ◌*◌, ◌≤◌, ◌<◌}
use native.Mathlib.Omega.{arith}
use native.Mathlib.Nat.{zero-add}
use lib.Dec.{leb}
use lib.ListN.{length, get_or, take, drop, length-drop}
use lib.Seq.{drop-drop}
use borrow.Author.Tests.{leb-true, leb-false, le-leb, lt-leb, eq-eqb}
use Rattle.meaning.specs.Digits.{digit_zero, digit, all_digits, number}
use Rattle.meaning.specs.Lines.{length_digits, label_digits, line_lead, line_end, min_line_bytes, cr, lf}
use Rattle.meaning.proofs.Bools.{and_left, and_right, byte-then}
use Rattle.meaning.proofs.LineLaws.{whole}
use Rattle.byte_low.specs.Low.{first_low}
use Rattle.line_read.specs.Number.{number_at}
use Rattle.line_read.specs.Line.{must, must_read, labelled_line, sized_line, line_at, a_line}
use Rattle.line_read.specs.Told.{bytes_from, three_bytes, three_zeros, four_bytes, four_zeros, told_length, told_label}
use Rattle.line_read.proofs.LineMeaning.{number_is, read_back}
use Rattle.std.specs.Prelude.{Some}

-- ---- the walks, by whether seven bytes stand at the offset

module _ (s : List ℕ) (at : ℕ) where
  module _ (h : length s < at + line_lead) where
    pub length_cut : 0 ≡ told_length s at
    unfolding told_length
    length_cut = rw (lt-leb (at + line_lead) (length s) h)

    pub label-cut : 0 ≡ told_label s at
    unfolding told_label
    label-cut = rw (lt-leb (at + line_lead) (length s) h)

  module _ (h : at + line_lead ≤ length s) (n : ℕ) where
    pub length-told : n ≡ three_bytes s at → n - (three_zeros + (line_lead + line_end)) ≡ told_length s at
    unfolding told_length
    length-told e = rw (le-leb (at + line_lead) (length s) h, ← e)

    pub label-told : n ≡ four_bytes s (at + length_digits) → n - four_zeros ≡ told_label s at
    unfolding told_label
    label-told e = rw (le-leb (at + line_lead) (length s) h, ← e)

  -- if a length is said, seven bytes stand there
  pub told-there : (n : ℕ) → n ≡ told_length s at → (n ≡ 0 → ⊥) → at + line_lead ≤ length s
  told-there n e z = go (leb (at + line_lead) (length s)) refl
    where
      go : (b : Bool) → leb (at + line_lead) (length s) ≡ b → at + line_lead ≤ length s
      go true q = leb-true (at + line_lead) (length s) q
      go false q = absurd (z (e ∙ sym (length_cut (leb-false (at + line_lead) (length s) q))))

-- ---- digits and bytes

-- a digit is at least `0`
digit-least : (b : ℕ) → digit b ≡ true → digit_zero ≤ b
digit-least b e = leb-true digit_zero b (and_left (leb digit_zero b) _ e)

three-so : (a b c : ℕ) → all_digits (a ∷ b ∷ c ∷ []) ≡ true → number (a ∷ b ∷ c ∷ []) + three_zeros ≡ a * 100 + b * 10 + c
three-so a b c e =
    let p = and_right (digit a) _ e in
    let q = and_right (digit b) _ p in
    omega (arith, digit-least a (and_left (digit a) _ e), digit-least b (and_left (digit b) _ p), digit-least c (and_left (digit c) _ q))

four-so : (a b c d : ℕ) → all_digits (a ∷ b ∷ c ∷ d ∷ []) ≡ true → number (a ∷ b ∷ c ∷ d ∷ []) + four_zeros ≡ a * 1000 + b * 100 + c * 10 + d
four-so a b c d e =
    let p = and_right (digit a) _ e in
    let q = and_right (digit b) _ p in
    let r = and_right (digit c) _ q in
    omega (
      arith,
      digit-least a (and_left (digit a) _ e),
      digit-least b (and_left (digit b) _ p),
      digit-least c (and_left (digit c) _ q),
      digit-least d (and_left (digit d) _ r),
    )

-- digits at an offset: their bytes come to their number, and to what zeros come to
module _ (s : List ℕ) (i : ℕ) where
  three-bytes : i + 3 ≤ length s → take 3 (drop i s) ≡ get_or s i 0 ∷ get_or s (i + 1) 0 ∷ get_or s (i + 2) 0 ∷ []
  three-bytes h =
      let two : i + 1 + 1 ≡ i + 2 = omega arith in
      rw (byte-then s i (omega arith), byte-then s (i + 1) (omega arith), two, byte-then s (i + 2) (omega arith))

  pub four-bytes : i + 4 ≤ length s → take 4 (drop i s) ≡ get_or s i 0 ∷ get_or s (i + 1) 0 ∷ get_or s (i + 2) 0 ∷ get_or s (i + 3) 0 ∷ []
  four-bytes h =
      let two : i + 1 + 1 ≡ i + 2 = omega arith in
      let three : i + 2 + 1 ≡ i + 3 = omega arith in
      rw (byte-then s i (omega arith), byte-then s (i + 1) (omega arith), two, byte-then s (i + 2) (omega arith), three, byte-then s (i + 3) (omega arith))

  three-are : i + 3 ≤ length s → all_digits (take 3 (drop i s)) ≡ true → three_bytes s i ≡ number (take 3 (drop i s)) + three_zeros
  three-are h e = rw (three-bytes h) (sym (three-so (get_or s i 0) (get_or s (i + 1) 0) (get_or s (i + 2) 0) (rw (three-bytes h) at e)))

  four_are : i + 4 ≤ length s → all_digits (take 4 (drop i s)) ≡ true → four_bytes s i ≡ number (take 4 (drop i s)) + four_zeros
  four_are h e = rw (four-bytes h) (sym (four-so (get_or s i 0) (get_or s (i + 1) 0) (get_or s (i + 2) 0) (get_or s (i + 3) 0) (rw (four-bytes h) at e)))

-- what `digits_at` makes of three bytes, and of four
module _ (s : List ℕ) (i n : ℕ) where
  pub three-made : i + 3 ≤ length s → n ≡ bytes_from 0 (take 3 (drop i s)) → n ≡ three_bytes s i
  three-made h e = e ∙ rw (three-bytes s i h) (omega arith)

  pub four-made : i + 4 ≤ length s → n ≡ bytes_from 0 (take 4 (drop i s)) → n ≡ four_bytes s i
  four-made h e = e ∙ rw (four-bytes s i h) (omega arith)

no-digits : (k : ℕ) → all_digits (take k []) ≡ true
no-digits zero = refl
no-digits (suc k) = refl

-- of digits the first ones and the others are digits
digits-split : (j k : ℕ) (u : List ℕ) → all_digits (take (j + k) u) ≡ true → (all_digits (take j u) ≡ true) × (all_digits (take k (drop j u)) ≡ true)
digits-split zero k u e = (refl, rw (zero-add k) at e)
digits-split (suc j) k [] e = (refl, no-digits k)
digits-split (suc j) k (b ∷ u) e =
    let n : suc j + k ≡ suc (j + k) = omega arith in
    let h = rw n at e in
    let r = digits-split j k u (and_right (digit b) _ h) in
    (rw (and_left (digit b) _ h) r.0, r.1)

-- the first three of seven digits
pub three-least : (s : List ℕ) (at : ℕ) → at + line_lead ≤ length s → all_digits (take line_lead (drop at s)) ≡ true → three_zeros ≤ three_bytes s at
three-least s at h e = omega (arith, three-are s at (omega arith) (digits-split 3 4 (drop at s) e).0)

-- ---- a line that is read

-- A line that is read has seven bytes before its content. They come to its length and to its label, and to what zeros come to.
pub read-bytes : (s : List ℕ) (at : ℕ) {l n : ℕ} → line_at s at ≡ a_line l n
    → (at + line_lead ≤ length s) × (three_bytes s at ≡ n + three_zeros) × (four_bytes s (at + length_digits) ≡ l + four_zeros)
read-bytes s at {l} {n} e =
    let r = read_back s at e in
    let w = whole (drop at s) r.no-fault in
    let k : at + line_lead ≤ length s = omega (arith, r.least, r.within) in
    let four : all_digits (take 4 (drop (at + 3) s)) ≡ true = rw (drop-drop 3 at s) at w.four in
    let label : l ≡ number (take 4 (drop (at + 3) s)) = r.label-so ∙ ap (λ (u : List ℕ). number (take 4 u)) (drop-drop 3 at s) in
    (k, omega (arith, three-are s at (omega arith) w.three, r.size-so), omega (arith, four_are s (at + 3) (omega arith) four, label))

-- It says the length of its content and its label.
pub read_told : (s : List ℕ) (at : ℕ) {l n : ℕ} → line_at s at ≡ a_line l n → (told_length s at ≡ n - (line_lead + line_end)) × (told_label s at ≡ l)
read_told s at {l} {n} e =
    let b = read-bytes s at e in
    (omega (arith, length-told s at b.0 _ refl, b.1), omega (arith, label-told s at b.0 _ refl, b.2))

-- ---- a line whose bytes are right

module _ (s : List ℕ) (at : ℕ) where
  -- the rest of 2, then 3, 4, 5, 6
  sized-sound : (n l : ℕ) → min_line_bytes ≤ n → at + n ≤ length s → get_or s (at + (n - 2)) 0 ≡ cr → get_or s (at + (n - 1)) 0 ≡ lf
      → number_at s (at + length_digits) label_digits ≡ Some l → first_low s (at + line_lead) (n - (line_lead + line_end)) ≡ at + line_lead + (n - (line_lead + line_end))
      → sized_line s at n ≡ a_line l n
  unfolding sized_line labelled_line must must_read
  sized-sound n l h g c f e q =
      let k : ℕ = at + line_lead + (n - (line_lead + line_end)) in
      rw (
        le-leb min_line_bytes n h,
        le-leb n (length s - at) (omega arith),
        eq-eqb (get_or s (at + (n - 2)) 0) cr c,
        eq-eqb (get_or s (at + (n - 1)) 0) lf f,
        e,
        q,
        le-leb k k (omega arith),
      )

  -- A line is read whose first seven bytes are digits, of which three say its length, and whose content and end, at offset `end`, are right.
  pub line-sound : (n end : ℕ) → n ≡ three_bytes s at - three_zeros → min_line_bytes ≤ n → at + n ≤ length s → end + line_end ≡ at + n
      → all_digits (take line_lead (drop at s)) ≡ true → first_low s (at + line_lead) (end - (at + line_lead)) ≡ end
      → get_or s end 0 ≡ cr → get_or s (end + 1) 0 ≡ lf
      → line_at s at ≡ a_line (four_bytes s (at + length_digits) - four_zeros) n
  unfolding line_at must_read
  line-sound n end e least within q seven clean c f =
      let l : ℕ = four_bytes s (at + 3) - four_zeros in
      let d = digits-split 3 4 (drop at s) seven in
      let four : all_digits (take 4 (drop (at + 3) s)) ≡ true = rw (drop-drop 3 at s) at d.1 in
      let size-so : number (take 3 (drop at s)) ≡ n = omega (arith, three-are s at (omega arith) d.0) in
      let label-so : number (take 4 (drop (at + 3) s)) ≡ l = omega (arith, four_are s (at + 3) (omega arith) four) in
      let size : number_at s at 3 ≡ Some n =
      number_is s at 3 (omega arith) (omega arith) ∙ rw (le-leb 3 (length (drop at s)) (omega (arith, length-drop at s)), d.0, size-so) in
      let label : number_at s (at + 3) 4 ≡ Some l =
      number_is s (at + 3) 4 (omega arith) (omega arith) ∙ rw (le-leb 4 (length (drop (at + 3) s)) (omega (arith, length-drop (at + 3) s)), four, label-so) in
      let i : at + (n - 2) ≡ end = omega arith in
      let j : at + (n - 1) ≡ end + 1 = omega arith in
      let k : n - 9 ≡ end - (at + 7) = omega arith in
      let z : end ≡ at + 7 + (n - 9) = omega arith in
      rw size (sized-sound n l least within
      (ap (λ (m : ℕ). get_or s m 0) i ∙ c) (ap (λ (m : ℕ). get_or s m 0) j ∙ f) label (ap (first_low s (at + 7)) k ∙ clean ∙ z))
