-- A block of which one byte was changed on the way is never taken (`one-byte`): its form is bad, or its CRC is.
--
-- The byte is one of count, label and data, and then their CRC is another (`crc-one`); or one of the four hex digits, and then it is no hex digit or they write another number; or
-- the 0Dh, and then the block does not end with 0Dh.
use mathlib.Core.Path.{◌≡◌, refl, sym, ap, ◌∙◌}
use mathlib.Core.Bool.{Bool, true, false, ◌&&◌, ◌||◌}
use mathlib.Core.List.{List, [], ◌∷◌, ◌++◌}
use mathlib.Core.Logic.{◌⊎◌, inl, inr, ◌≢◌}
use Prim.Native.Nat.{ℕ, zero, suc, ◌+◌, ◌-◌, ◌*◌, ◌≤◌, ◌<◌}
use native.Mathlib.Omega.{arith}
use lib.Dec.{leb, eqb}
use lib.ListN.{length, get_or, set, length-set, get_or-append}
use lib.Seq.{set-append_left, get_or-append-add}
use borrow.Author.Tests.{leb-true, leb-false, lt-leb, eqb-true}
use Rattle.meaning.specs.Refusals.{bad_block, bad_crc}
use Rattle.meaning.specs.Digits.{digit}
use Rattle.meaning.specs.Lines.{cr}
use Rattle.meaning.proofs.Bools.{and_left, and_right, Every, every-at}
use Rattle.meaning_cable.specs.declared.Receiver.{Receiver}
use Rattle.meaning_cable.specs.Crc.{crc}
use Rattle.meaning_cable.specs.Stream.{all_data}
use Rattle.meaning_cable.specs.Blocks.{hex_digits, block_front, block_bytes}
use Rattle.meaning_cable.specs.Receiving.{data_of, front_of, crc_digits, is_hex, hex_value, all_hex, hex_from, length_ok, head_ok}
use Rattle.meaning_cable.specs.Receiving.{end_ok, form_ok, crc_ok, block_faults, refusing, bad-form, bad-crc, receive}
use Rattle.meaning_cable.proofs.CrcLaws.{crc-one, crc-lt}
use Rattle.meaning_cable.proofs.BlockLaws.{Writable, hex-all, hex-back, tail_of, parts-length, front-is, crc-digits-are}
use Rattle.meaning_cable.proofs.ReceivingLaws.{faultless, faultless-form, takes-receive}

-- ---- a change in the second part of two

set_append_right : (a b : List ℕ) (j v : ℕ) → set (a ++ b) (length a + j) v ≡ a ++ set b j v
set_append_right [] b j v = ap (λ (n : ℕ). set b n v) (omega arith)
set_append_right (y ∷ a) b j v =
    let e : suc (length a) + j ≡ suc (length a + j) = omega arith in
    ap (λ (n : ℕ). set (y ∷ (a ++ b)) n v) e ∙ ap (λ (t : List ℕ). y ∷ t) (set_append_right a b j v)

-- ---- hex digits

-- what a hex digit is: 0 to 9, or A to F
data Hex (b : ℕ) : Type 0 where
  low : 48 ≤ b → b ≤ 57 → hex_value b ≡ b - 48 → Hex b
  high : 65 ≤ b → b ≤ 70 → hex_value b ≡ 10 + (b - 65) → Hex b

hex : (b : ℕ) → is_hex b ≡ true → Hex b
hex b e = go (digit b) refl e
  where
    go : (t : Bool) → digit b ≡ t → t || (leb 65 b && leb b 70) ≡ true → Hex b
    go true d h =
        let p = leb-true 48 b (and_left (leb 48 b) (leb b 57) d) in
        let q = and_right (leb 48 b) (leb b 57) d in
        low p (leb-true b 57 q) (rw q)
    go false d h =
        let p = leb-true 65 b (and_left (leb 65 b) (leb b 70) h) in
        let q = leb-true b 70 (and_right (leb 65 b) (leb b 70) h) in
        high p q (rw (lt-leb b 57 (omega arith)))

value_same : (a b : ℕ) → is_hex a ≡ true → is_hex b ≡ true → hex_value a ≡ hex_value b → a ≡ b
value_same a b p q e = go (hex a p) (hex b q)
  where
    go : Hex a → Hex b → a ≡ b
    go (low u v w) (low x y z) = omega (arith, e, w, z)
    go (low u v w) (high x y z) = absurd (omega (arith, e, w, z))
    go (high u v w) (low x y z) = absurd (omega (arith, e, w, z))
    go (high u v w) (high x y z) = omega (arith, e, w, z)

hex-from-same : (q : List ℕ) (a b : ℕ) → hex_from a q ≡ hex_from b q → a ≡ b
hex-from-same [] a b e = e
hex-from-same (y ∷ q) a b e = let z : a * 16 + hex_value y ≡ b * 16 + hex_value y = hex-from-same q (a * 16 + hex_value y) (b * 16 + hex_value y) e in omega arith

-- one hex digit for another changes the number
hex-one : (q : List ℕ) (j v a : ℕ) → j < length q → all_hex q ≡ true → all_hex (set q j v) ≡ true → hex_from a (set q j v) ≡ hex_from a q → v ≡ get_or q j 0
hex-one [] j v a l h k e = absurd (omega arith)
hex-one (y ∷ q) zero v a l h k e =
    let z : a * 16 + hex_value v ≡ a * 16 + hex_value y = hex-from-same q (a * 16 + hex_value v) (a * 16 + hex_value y) e in
    value_same v y (and_left (is_hex v) (all_hex q) k) (and_left (is_hex y) (all_hex q) h) (omega arith)
hex-one (y ∷ q) (suc j) v a l h k e =
    hex-one q j v (a * 16 + hex_value y) (omega arith) (and_right (is_hex y) (all_hex q) h) (and_right (is_hex y) (all_hex (set q j v)) k) e

-- ---- one byte of a block

-- what the form of a block says of its end
ends-right : (b : List ℕ) → form_ok b ≡ true → (all_hex (crc_digits b) ≡ true) × (get_or b (length b - 1) 0 ≡ cr)
unfolding form_ok
ends-right b e =
    let t : end_ok b ≡ true =
    and_right (all_data (data_of b)) (end_ok b) (and_right (head_ok b) (all_data (data_of b) && end_ok b) (and_right (length_ok b) (head_ok b && (all_data (data_of b) && end_ok b)) e)) in
    (and_left (all_hex (crc_digits b)) (eqb (get_or b (length b - 1) 0) cr) t, eqb-true (get_or b (length b - 1) 0) cr (and_right (all_hex (crc_digits b)) (eqb (get_or b (length b - 1) 0) cr) t))

-- what the CRC test of a block says
crc-says : (b : List ℕ) → crc_ok b ≡ true → hex_from 0 (crc_digits b) ≡ crc (front_of b)
unfolding crc_ok
crc-says b e = eqb-true (hex_from 0 (crc_digits b)) (crc (front_of b)) e

-- `a` is count, label and data; its CRC is written after it, then 0Dh
module _ (a : List ℕ) (k v : ℕ) (v-byte : v < 256) where
  q : List ℕ
  q = hex_digits (crc a)

  whole : List ℕ
  whole = a ++ tail_of q

  crc-back : hex_from 0 q ≡ crc a
  unfolding q
  crc-back = hex-back (crc a) (crc-lt a 0 (omega arith))

  four : length q ≡ 4
  unfolding q
  four = refl

  all-hex : all_hex q ≡ true
  unfolding q
  all-hex = hex-all (crc a)

  whole_length : length whole ≡ length a + 5
  unfolding whole
  whole_length = parts-length a q four

  -- in count, label or data
  in-front : k < length a → get_or a k 0 < 256 → crc_ok (set whole k v) ≡ true → v ≡ get_or whole k 0
  unfolding whole
  in-front l byte c =
      let e : set (a ++ tail_of q) k v ≡ set a k v ++ tail_of q = set-append_left a (tail_of q) k v l in
      let says : hex_from 0 (crc_digits (set a k v ++ tail_of q)) ≡ crc (front_of (set a k v ++ tail_of q)) = crc-says (set a k v ++ tail_of q) (ap crc_ok (sym e) ∙ c) in
      let left : hex_from 0 (crc_digits (set a k v ++ tail_of q)) ≡ crc a = ap (hex_from 0) (crc-digits-are (set a k v) q four) ∙ crc-back in
      let right : crc (front_of (set a k v ++ tail_of q)) ≡ crc (set a k v) = ap crc (front-is (set a k v) q four) in
      crc-one a k v 0 (omega arith) l v-byte byte (sym right ∙ (sym says ∙ left)) ∙ sym (get_or-append a (tail_of q) 0 k l)

  -- in the four hex digits
  in-digits : (j : ℕ) → k ≡ length a + j → j < 4 → form_ok (set whole k v) ≡ true → crc_ok (set whole k v) ≡ true → v ≡ get_or whole k 0
  unfolding whole
  in-digits j n l f c =
      let few : j < length q = omega (arith, four) in
      let e : set (a ++ tail_of q) k v ≡ a ++ tail_of (set q j v) =
      ap (λ (m : ℕ). set (a ++ tail_of q) m v) n ∙ (set_append_right a (tail_of q) j v ∙ ap (λ (t : List ℕ). a ++ t) (set-append_left q (cr ∷ []) j v few)) in
      let four' : length (set q j v) ≡ 4 = length-set q j v ∙ four in
      let digits_are : crc_digits (a ++ tail_of (set q j v)) ≡ set q j v = crc-digits-are a (set q j v) four' in
      let says : hex_from 0 (crc_digits (a ++ tail_of (set q j v))) ≡ crc (front_of (a ++ tail_of (set q j v))) = crc-says (a ++ tail_of (set q j v)) (ap crc_ok (sym e) ∙ c) in
      let hexes : all_hex (set q j v) ≡ true = ap all_hex (sym digits_are) ∙ (ends-right (a ++ tail_of (set q j v)) (ap form_ok (sym e) ∙ f)).0 in
      let same : hex_from 0 (set q j v) ≡ hex_from 0 q =
      ap (hex_from 0) (sym digits_are) ∙ (says ∙ (ap crc (front-is a (set q j v) four') ∙ sym crc-back)) in
      hex-one q j v 0 few all-hex hexes same
      ∙ sym (ap (λ (m : ℕ). get_or (a ++ tail_of q) m 0) n ∙ (get_or-append-add a (tail_of q) j 0 ∙ get_or-append q (cr ∷ []) 0 j few))

  -- the 0Dh
  in_end : k ≡ length a + 4 → form_ok (set whole k v) ≡ true → v ≡ get_or whole k 0
  unfolding whole
  in_end n f =
      let m : k ≡ length a + (length q + 0) = omega (arith, four) in
      let e : set (a ++ tail_of q) k v ≡ a ++ (q ++ (v ∷ [])) =
      ap (λ (i : ℕ). set (a ++ tail_of q) i v) m ∙ (set_append_right a (tail_of q) (length q + 0) v ∙ ap (λ (t : List ℕ). a ++ t) (set_append_right q (cr ∷ []) 0 v)) in
      let ends : get_or (set (a ++ tail_of q) k v) (length (set (a ++ tail_of q) k v) - 1) 0 ≡ cr = (ends-right (set (a ++ tail_of q) k v) f).1 in
      let at : length (set (a ++ tail_of q) k v) - 1 ≡ k = omega (arith, length-set (a ++ tail_of q) k v, parts-length a q four) in
      let new : get_or (a ++ (q ++ (v ∷ []))) k 0 ≡ v =
      ap (λ (i : ℕ). get_or (a ++ (q ++ (v ∷ []))) i 0) m ∙ (get_or-append-add a (q ++ (v ∷ [])) (length q + 0) 0 ∙ get_or-append-add q (v ∷ []) 0 0) in
      let old : get_or (a ++ tail_of q) k 0 ≡ cr =
      ap (λ (i : ℕ). get_or (a ++ tail_of q) i 0) m ∙ (get_or-append-add a (tail_of q) (length q + 0) 0 ∙ get_or-append-add q (cr ∷ []) 0 0) in
      sym new ∙ (ap (λ (t : List ℕ). get_or t k 0) (sym e) ∙ (ap (λ (i : ℕ). get_or (set (a ++ tail_of q) k v) i 0) (sym at) ∙ (ends ∙ sym old)))

  -- anywhere
  in_whole : k < length whole → (k < length a → get_or a k 0 < 256) → form_ok (set whole k v) ≡ true → crc_ok (set whole k v) ≡ true → v ≡ get_or whole k 0
  in_whole l byte f c = go (leb (suc k) (length a)) (leb (suc k) (length a + 4)) refl refl
    where
      go : (s t : Bool) → leb (suc k) (length a) ≡ s → leb (suc k) (length a + 4) ≡ t → v ≡ get_or whole k 0
      go true t p r = let m = leb-true (suc k) (length a) p in in-front (omega arith) (byte (omega arith)) c
      go false true p r =
          let m = leb-false (suc k) (length a) p in
          let o = leb-true (suc k) (length a + 4) r in
          in-digits (k - length a) (omega arith) (omega arith) f c
      go false false p r =
          let o = leb-false (suc k) (length a + 4) r in
          in_end (omega (arith, whole_length)) f

-- what is refused for its form or its CRC changes nothing
pub not_taken : (st : Receiver) (buf b : List ℕ) → (form_ok b ≡ true → crc_ok b ≡ true → ⊥)
    → (receive st buf b ≡ refusing st buf bad_block) ⊎ (receive st buf b ≡ refusing st buf bad_crc)
not_taken st buf b h = go (form_ok b) (crc_ok b) refl refl
  where
    go : (p r : Bool) → form_ok b ≡ p → crc_ok b ≡ r → (receive st buf b ≡ refusing st buf bad_block) ⊎ (receive st buf b ≡ refusing st buf bad_crc)
    go false r f c = inl (takes-receive (bad-form f))
    go true false f c = inr (takes-receive (bad-crc f c))
    go true true f c = absurd (h f c)

-- count, label and data of a block that can be written are bytes
front_bytes : (count label : ℕ) (x : List ℕ) → Writable count label x → Every (λ b. b < 256) x → (i : ℕ) → i < length (block_front count label x)
    → get_or (block_front count label x) i 0 < 256
front_bytes count label x w h zero l = omega (arith, w.count_fits)
front_bytes count label x w h (suc zero) l = omega arith
front_bytes count label x w h (suc (suc zero)) l = omega arith
front_bytes count label x w h (suc (suc (suc zero))) l = omega (arith, w.label-fits)
front_bytes count label x w h (suc (suc (suc (suc i)))) l = every-at (λ b. b < 256) x i 0 (omega arith) h

-- a block that was written, with one byte of it changed, has a fault by itself: the receiver sees it
pub one-byte-seen : (count label : ℕ) (x : List ℕ) → Writable count label x → Every (λ b. b < 256) x
    → (k v : ℕ) → k < length (block_bytes count label x) → v < 256 → v ≢ get_or (block_bytes count label x) k 0 → block_faults (set (block_bytes count label x) k v) ≢ []
unfolding block_bytes whole q
one-byte-seen count label x w h k v l vb n e =
    let good = faultless-form (set (block_bytes count label x) k v) e in
    n (in_whole (block_front count label x) k v vb l (front_bytes count label x w h k) good.0 good.1)

-- so it is refused by 25 or 26, and the receiver and its buffer are as they were
pub one-byte : (count label : ℕ) (x : List ℕ) → Writable count label x → Every (λ b. b < 256) x
    → (k v : ℕ) → k < length (block_bytes count label x) → v < 256 → v ≢ get_or (block_bytes count label x) k 0 → (st : Receiver) (buf : List ℕ)
    → (receive st buf (set (block_bytes count label x) k v) ≡ refusing st buf bad_block) ⊎ (receive st buf (set (block_bytes count label x) k v) ≡ refusing st buf bad_crc)
one-byte count label x w h k v l vb n st buf =
    not_taken st buf (set (block_bytes count label x) k v) (λ f c. one-byte-seen count label x w h k v l vb n (faultless (set (block_bytes count label x) k v) f c))
