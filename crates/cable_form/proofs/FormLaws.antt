-- Hex digits and their bounds; the tests of the form one after the other; and what a block of good form is known to have.
use mathlib.Core.Path.{◌≡◌, refl, sym, ap, ap₂, ◌∙◌}
use mathlib.Core.Bool.{Bool, true, false, ◌&&◌, ◌||◌}
use mathlib.Core.List.{List, [], ◌∷◌}
use Prim.Native.Nat.{ℕ, ◌+◌, ◌-◌, ◌*◌, ◌≤◌, ◌<◌}
use native.Mathlib.Nat.{zero-add}
use native.Mathlib.Omega.{arith}
use lib.Dec.{leb, eqb}
use lib.ListN.{length, take, drop, get_or}
use borrow.Author.Tests.{le-leb, lt-leb, leb-true}
use Rattle.meaning.specs.Digits.{digit}
use Rattle.meaning.specs.Lines.{cr}
use Rattle.meaning.proofs.Bools.{and_left, and_right, and_no, byte-then}
use Rattle.meaning_cable.specs.Stream.{all_data}
use Rattle.meaning_cable.specs.Receiving.{min_block, max_block, data_of, front_of, crc_digits, is_hex, hex_value, all_hex, hex_from, length_ok, head_ok, end_ok, form_ok}

-- ---- a hex digit

-- a digit or one of six letters
pub data Hex (b : ℕ) : Type 0 where
  number : 48 ≤ b → b ≤ 57 → Hex b
  letter : 65 ≤ b → b ≤ 70 → Hex b

pub hex-either : (b : ℕ) → is_hex b ≡ true → Hex b
hex-either b e = go (digit b) refl e
  where
    go : (t : Bool) → digit b ≡ t → t || (leb 65 b && leb b 70) ≡ true → Hex b
    go true d f = number (leb-true 48 b (and_left (leb 48 b) (leb b 57) d)) (leb-true b 57 (and_right (leb 48 b) (leb b 57) d))
    go false d f = letter (leb-true 65 b (and_left (leb 65 b) (leb b 70) f)) (leb-true b 70 (and_right (leb 65 b) (leb b 70) f))

pub number-least : (b : ℕ) → is_hex b ≡ true → b ≤ 57 → 48 ≤ b
number-least b e h = go (hex-either b e)
  where
    go : Hex b → 48 ≤ b
    go (number p q) = p
    go (letter p q) = omega arith

pub letter-bounds : (b : ℕ) → is_hex b ≡ true → 57 < b → (65 ≤ b) × (b ≤ 70)
letter-bounds b e h = go (hex-either b e)
  where
    go : Hex b → (65 ≤ b) × (b ≤ 70)
    go (number p q) = absurd (omega arith)
    go (letter p q) = (p, q)

pub number-value : (b : ℕ) → b ≤ 57 → b - 48 ≡ hex_value b
number-value b h = rw (le-leb b 57 h)

pub letter-value : (b : ℕ) → 57 < b → 10 + (b - 65) ≡ hex_value b
letter-value b h = rw (lt-leb b 57 h)

-- four of them, and the number that they write
pub four-hex : (a b c d : ℕ) → all_hex (a ∷ b ∷ c ∷ d ∷ []) ≡ true → (is_hex a ≡ true) × (is_hex b ≡ true) × (is_hex c ≡ true) × (is_hex d ≡ true)
four-hex a b c d e =
    let p : all_hex (b ∷ c ∷ d ∷ []) ≡ true = and_right (is_hex a) (all_hex (b ∷ c ∷ d ∷ [])) e in
    let q : all_hex (c ∷ d ∷ []) ≡ true = and_right (is_hex b) (all_hex (c ∷ d ∷ [])) p in
    let r : all_hex (d ∷ []) ≡ true = and_right (is_hex c) (all_hex (d ∷ [])) q in
    (and_left (is_hex a) _ e, and_left (is_hex b) _ p, and_left (is_hex c) _ q, and_left (is_hex d) _ r)

pub four-number : (a b c d p q r s : ℕ) → p ≡ hex_value a → q ≡ hex_value b → r ≡ hex_value c → s ≡ hex_value d
    → ((p * 16 + q) * 16 + r) * 16 + s ≡ hex_from 0 (a ∷ b ∷ c ∷ d ∷ [])
four-number a b c d p q r s e f g h =
    ap₂ (λ (x y : ℕ). x * 16 + y) (ap₂ (λ (x y : ℕ). x * 16 + y) (ap₂ (λ (x y : ℕ). x * 16 + y) (e ∙ sym (zero-add (hex_value a))) f) g) h

-- ---- the form, test by test

-- the end: four hex digits, then 0Dh
module _ (b : List ℕ) (h : Bool) (e : h ≡ all_hex (crc_digits b)) where
  pub end-no-hex : h ≡ false → end_ok b ≡ false
  end-no-hex f = rw (sym e ∙ f)

  pub end-hex : h ≡ true → end_ok b ≡ eqb (get_or b (length b - 1) 0) cr
  end-hex f = rw (sym e ∙ f)

module _ (b : List ℕ) where
  pub form-short : length b < min_block → form_ok b ≡ false
  unfolding form_ok
  form-short h = rw (lt-leb min_block (length b) h)

  pub form-long : max_block < length b → form_ok b ≡ false
  unfolding form_ok
  form-long h = rw (lt-leb (length b) max_block h, and_no (leb min_block (length b)) {b = false} refl)

  module _ (p : min_block ≤ length b) (q : length b ≤ max_block) where
    form-head : form_ok b ≡ head_ok b && (all_data (data_of b) && end_ok b)
    unfolding form_ok
    form-head = rw (le-leb min_block (length b) p, le-leb (length b) max_block q)

    pub head-bad : head_ok b ≡ false → form_ok b ≡ false
    head-bad e = form-head ∙ rw e

    pub data-bad : head_ok b ≡ true → all_data (data_of b) ≡ false → form_ok b ≡ false
    data-bad e f = form-head ∙ rw (e, f)

    pub end-left : head_ok b ≡ true → all_data (data_of b) ≡ true → form_ok b ≡ end_ok b
    end-left e f = form-head ∙ rw (e, f)

-- the parts as the code cuts them out
pub data-part : (b : List ℕ) → min_block ≤ length b → take (length b - 5 - 4) (drop 4 b) ≡ data_of b
data-part b h = let e : length b - 5 - 4 ≡ length b - 9 = omega arith in ap (λ (n : ℕ). take n (drop 4 b)) e

pub digits-part : (b : List ℕ) → min_block ≤ length b → take (length b - 1 - (length b - 5)) (drop (length b - 5) b) ≡ crc_digits b
digits-part b h = let e : length b - 1 - (length b - 5) ≡ 4 = omega arith in ap (λ (n : ℕ). take n (drop (length b - 5) b)) e

pub front-part : (b : List ℕ) → take (length b - 5 - 0) (drop 0 b) ≡ front_of b
front-part b = let e : length b - 5 - 0 ≡ length b - 5 = omega arith in ap (λ (n : ℕ). take n b) e

-- ---- what a block of good form has

pub record Formed (b : List ℕ) : Type 0 where
  pub least : min_block ≤ length b
  pub most : length b ≤ max_block
  pub count-least : 48 ≤ get_or b 0 0
  pub label-least : 48 ≤ get_or b 3 0
  pub label-most : get_or b 3 0 ≤ 50
  pub hex-digits : all_hex (crc_digits b) ≡ true

pub formed : (b : List ℕ) → form_ok b ≡ true → Formed b
unfolding form_ok
formed b e =
    let rest : Bool = head_ok b && (all_data (data_of b) && end_ok b) in
    let sizes : length_ok b ≡ true = and_left (length_ok b) rest e in
    let after : rest ≡ true = and_right (length_ok b) rest e in
    let head : head_ok b ≡ true = and_left (head_ok b) (all_data (data_of b) && end_ok b) after in
    let end : end_ok b ≡ true = and_right (all_data (data_of b)) (end_ok b) (and_right (head_ok b) (all_data (data_of b) && end_ok b) after) in
    let label : Bool = leb 48 (get_or b 3 0) && leb (get_or b 3 0) 50 in
    let zero-then : Bool = eqb (get_or b 2 0) 48 && label in
    let letter-then : Bool = eqb (get_or b 1 0) 66 && zero-then in
    let digit-is : digit (get_or b 0 0) ≡ true = and_left (digit (get_or b 0 0)) letter-then head in
    let label-is : label ≡ true =
    and_right (eqb (get_or b 2 0) 48) label (and_right (eqb (get_or b 1 0) 66) zero-then (and_right (digit (get_or b 0 0)) letter-then head)) in
    record {
      least = leb-true min_block (length b) (and_left (leb min_block (length b)) (leb (length b) max_block) sizes);
      most = leb-true (length b) max_block (and_right (leb min_block (length b)) (leb (length b) max_block) sizes);
      count-least = leb-true 48 (get_or b 0 0) (and_left (leb 48 (get_or b 0 0)) (leb (get_or b 0 0) 57) digit-is);
      label-least = leb-true 48 (get_or b 3 0) (and_left (leb 48 (get_or b 3 0)) (leb (get_or b 3 0) 50) label-is);
      label-most = leb-true (get_or b 3 0) 50 (and_right (leb 48 (get_or b 3 0)) (leb (get_or b 3 0) 50) label-is);
      hex-digits = and_left (all_hex (crc_digits b)) (eqb (get_or b (length b - 1) 0) 13) end;
    }

-- the four digits, each by itself
pub four-digits : (b : List ℕ) (n : ℕ) → n + 5 ≡ length b
    → take 4 (drop n b) ≡ get_or b n 0 ∷ get_or b (n + 1) 0 ∷ get_or b (n + 2) 0 ∷ get_or b (n + 3) 0 ∷ []
four-digits b n h =
    let two : n + 1 + 1 ≡ n + 2 = omega arith in
    let three : n + 2 + 1 ≡ n + 3 = omega arith in
    rw (byte-then b n (omega arith), byte-then b (n + 1) (omega arith), two, byte-then b (n + 2) (omega arith), three, byte-then b (n + 3) (omega arith))
