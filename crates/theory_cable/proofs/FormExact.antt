-- "A block is sequence count, label B00, B01 or B02, up to 128 data bytes, CRC-16 as four hex digits, 0Dh": exactly these bytes have no fault (`form-exactly`). That a block which is written so has
-- none is `block_read` of crate `meaning_cable`; here is the other way: whatever form and CRC let pass is what `block_bytes` writes of the count, label and data that are read from it.
use mathlib.Core.Path.{◌≡◌, refl, sym, ap, ◌∙◌, subst}
use mathlib.Core.Bool.{Bool, true, false, ◌&&◌, ◌||◌}
use mathlib.Core.List.{List, [], ◌∷◌, ◌++◌}
use mathlib.Core.Logic.{◌↔◌}
use Prim.Native.Nat.{ℕ, suc, ◌+◌, ◌-◌, ◌/◌, ◌%◌, ◌≤◌, ◌<◌}
use native.Mathlib.Omega.{arith}
use lib.Dec.{leb, eqb}
use lib.ListN.{length, take, drop, get_or, take-append-drop, length-take, length-drop}
use lib.Seq.{get_or-drop}
use borrow.Author.Tests.{leb-true, lt-leb, le-leb, eqb-true}
use Rattle.meaning.specs.Digits.{digit}
use Rattle.meaning.specs.Lines.{cr}
use Rattle.meaning.proofs.Bools.{and_left, and_right}
use Rattle.meaning_cable.specs.Crc.{crc}
use Rattle.meaning_cable.specs.Stream.{all_data}
use Rattle.meaning_cable.specs.Blocks.{hex_digit, hex_digits, block_front, block_bytes}
use Rattle.meaning_cable.specs.Receiving.{count_of, label_of, data_of, front_of, crc_digits, is_hex, hex_value, all_hex, hex_from, length_ok, head_ok, form_ok, crc_ok, block_faults}
use Rattle.meaning_cable.proofs.BlockLaws.{Writable, block_read}
use Rattle.meaning_cable.proofs.ReceivingLaws.{faultless-form}

-- ---- four hex digits and 0Dh, after the data

-- a byte that writes a hex digit, the one of its value
data Hex (b : ℕ) : Type 0 where
  is : hex_value b < 16 → hex_digit (hex_value b) ≡ b → Hex b

hex : (b : ℕ) → is_hex b ≡ true → Hex b
hex b e = go (digit b) refl e
  where
    go : (t : Bool) → digit b ≡ t → t || (leb 65 b && leb b 70) ≡ true → Hex b
    go true d h =
        let p = leb-true 48 b (and_left (leb 48 b) (leb b 57) d) in
        let q = and_right (leb 48 b) (leb b 57) d in
        let m = leb-true b 57 q in
        let v : hex_value b ≡ b - 48 = rw q in
        is (omega (arith, v)) (rw v (rw (le-leb (b - 48) 9 (omega arith)) (omega arith)))
    go false d h =
        let p = leb-true 65 b (and_left (leb 65 b) (leb b 70) h) in
        let q = leb-true b 70 (and_right (leb 65 b) (leb b 70) h) in
        let v : hex_value b ≡ 10 + (b - 65) = rw (lt-leb b 57 (omega arith)) in
        is (omega (arith, v)) (rw v (rw (lt-leb (10 + (b - 65)) 9 (omega arith)) (omega arith)))

four : (a b c d : ℕ) → Hex a → Hex b → Hex c → Hex d → hex_digits (hex_from 0 (a ∷ b ∷ c ∷ d ∷ [])) ≡ a ∷ b ∷ c ∷ d ∷ []
four a b c d (is p w) (is q x) (is r y) (is s z) =
    let n : ℕ = hex_from 0 (a ∷ b ∷ c ∷ d ∷ []) in
    let k : n / 4096 % 16 ≡ hex_value a = omega arith in
    let l : n / 256 % 16 ≡ hex_value b = omega arith in
    let m : n / 16 % 16 ≡ hex_value c = omega arith in
    let o : n % 16 ≡ hex_value d = omega arith in
    λ i. (ap hex_digit k ∙ w) i ∷ (ap hex_digit l ∙ x) i ∷ (ap hex_digit m ∙ y) i ∷ (ap hex_digit o ∙ z) i ∷ []

-- the last five bytes of a block write the number that is read from them
tail-is : (t : List ℕ) → length t ≡ 5 → all_hex (take 4 t) ≡ true → get_or t 4 0 ≡ cr → t ≡ hex_digits (hex_from 0 (take 4 t)) ++ (cr ∷ [])
tail-is [] l h e = absurd (omega arith)
tail-is (a ∷ []) l h e = absurd (omega arith)
tail-is (a ∷ b ∷ []) l h e = absurd (omega arith)
tail-is (a ∷ b ∷ c ∷ []) l h e = absurd (omega arith)
tail-is (a ∷ b ∷ c ∷ d ∷ []) l h e = absurd (omega arith)
tail-is (a ∷ b ∷ c ∷ d ∷ x ∷ y ∷ t) l h e = absurd (omega arith)
tail-is (a ∷ b ∷ c ∷ d ∷ x ∷ []) l h e =
    let i = and_left (is_hex a) _ h in
    let h1 = and_right (is_hex a) _ h in
    let j = and_left (is_hex b) _ h1 in
    let h2 = and_right (is_hex b) _ h1 in
    let k = and_left (is_hex c) _ h2 in
    let h3 = and_right (is_hex c) _ h2 in
    let m = and_left (is_hex d) _ h3 in
    ap (λ (z : ℕ). a ∷ b ∷ c ∷ d ∷ z ∷ []) e ∙ ap (λ (q : List ℕ). q ++ (cr ∷ [])) (sym (four a b c d (hex a i) (hex b j) (hex c k) (hex d m)))

-- ---- the whole block

-- what the form says, test by test
record Formed (b : List ℕ) : Type 0 where
  least : 9 ≤ length b
  most : length b ≤ 137
  a-digit : (48 ≤ get_or b 0 0) × (get_or b 0 0 ≤ 57)
  letter : get_or b 1 0 ≡ 66
  naught : get_or b 2 0 ≡ 48
  last-digit : (48 ≤ get_or b 3 0) × (get_or b 3 0 ≤ 50)
  data-only : all_data (data_of b) ≡ true
  hex-only : all_hex (crc_digits b) ≡ true
  ends : get_or b (length b - 1) 0 ≡ cr

formed : (b : List ℕ) → form_ok b ≡ true → Formed b
unfolding form_ok
formed b e =
    let l = and_left (length_ok b) _ e in
    let e1 = and_right (length_ok b) _ e in
    let h = and_left (head_ok b) _ e1 in
    let e2 = and_right (head_ok b) _ e1 in
    let x = and_left (all_data (data_of b)) _ e2 in
    let y = and_right (all_data (data_of b)) _ e2 in
    let d = and_left (digit (get_or b 0 0)) _ h in
    let h1 = and_right (digit (get_or b 0 0)) _ h in
    let p = and_left (eqb (get_or b 1 0) 66) _ h1 in
    let h2 = and_right (eqb (get_or b 1 0) 66) _ h1 in
    let q = and_left (eqb (get_or b 2 0) 48) _ h2 in
    let h3 = and_right (eqb (get_or b 2 0) 48) _ h2 in
    record {
      least = leb-true 9 (length b) (and_left (leb 9 (length b)) _ l);
      most = leb-true (length b) 137 (and_right (leb 9 (length b)) _ l);
      a-digit = (leb-true 48 (get_or b 0 0) (and_left (leb 48 (get_or b 0 0)) _ d), leb-true (get_or b 0 0) 57 (and_right (leb 48 (get_or b 0 0)) _ d));
      letter = eqb-true (get_or b 1 0) 66 p;
      naught = eqb-true (get_or b 2 0) 48 q;
      last-digit = (leb-true 48 (get_or b 3 0) (and_left (leb 48 (get_or b 3 0)) _ h3), leb-true (get_or b 3 0) 50 (and_right (leb 48 (get_or b 3 0)) _ h3));
      data-only = x;
      hex-only = and_left (all_hex (crc_digits b)) _ y;
      ends = eqb-true (get_or b (length b - 1) 0) cr (and_right (all_hex (crc_digits b)) _ y);
    }

-- the bytes before the CRC are count, label and data
front : (b : List ℕ) → Formed b → front_of b ≡ block_front (count_of b) (label_of b) (data_of b)
front [] f = let z = f.least in absurd (omega arith)
front (a ∷ []) f = let z = f.least in absurd (omega arith)
front (a ∷ c ∷ []) f = let z = f.least in absurd (omega arith)
front (a ∷ c ∷ d ∷ []) f = let z = f.least in absurd (omega arith)
front (a ∷ c ∷ d ∷ g ∷ t) f =
    let z = f.least in
    let n : length (a ∷ c ∷ d ∷ g ∷ t) - 5 ≡ suc (suc (suc (suc (length t - 5)))) = omega arith in
    let m : length (a ∷ c ∷ d ∷ g ∷ t) - 9 ≡ length t - 5 = omega arith in
    let p = f.a-digit in
    let q = f.last-digit in
    let u : a ≡ 48 + (a - 48) = omega arith in
    let v : g ≡ 48 + (g - 48) = omega arith in
    ap (λ (k : ℕ). take k (a ∷ c ∷ d ∷ g ∷ t)) n
    ∙ ((λ i. u i ∷ f.letter i ∷ f.naught i ∷ v i ∷ take (length t - 5) t) ∙ ap (λ (k : ℕ). (48 + (a - 48)) ∷ 66 ∷ 48 ∷ (48 + (g - 48)) ∷ take k t) (sym m))

-- a block without fault is the one that is written of its count, label and data, and these may be written
pub faultless-written : (b : List ℕ) → block_faults b ≡ [] → Writable (count_of b) (label_of b) (data_of b) × (b ≡ block_bytes (count_of b) (label_of b) (data_of b))
unfolding block_bytes crc_ok
faultless-written b e =
    let y = faultless-form b e in
    let f = formed b y.0 in
    let n : ℕ = length b - 5 in
    let l = f.least in
    let m = f.most in
    let p = f.a-digit in
    let q = f.last-digit in
    let t : List ℕ = drop n b in
    let five : length t ≡ 5 = omega (arith, length-drop n b) in
    let o : n + 4 ≡ length b - 1 = omega arith in
    let i : get_or t 4 0 ≡ cr = get_or-drop n b 4 0 ∙ (ap (λ (k : ℕ). get_or b k 0) o ∙ f.ends) in
    let c : hex_from 0 (crc_digits b) ≡ crc (front_of b) = eqb-true (hex_from 0 (crc_digits b)) (crc (front_of b)) y.1 in
    let w : t ≡ hex_digits (crc (front_of b)) ++ (cr ∷ []) = tail-is t five f.hex-only i ∙ ap (λ (k : ℕ). hex_digits k ++ (cr ∷ [])) c in
    let r = front b f in
    let whole : front_of b ++ (hex_digits (crc (front_of b)) ++ (cr ∷ [])) ≡ b = ap (λ (x : List ℕ). front_of b ++ x) (sym w) ∙ take-append-drop n b in (
      record { count_fits = omega arith; label-fits = omega arith; length-fits = data-length; data-only = f.data-only },
      sym whole ∙ ap (λ (x : List ℕ). x ++ (hex_digits (crc x) ++ (cr ∷ []))) r,
    )
  where
    data-length : length (data_of b) ≤ 128
    data-length = let m = (formed b (faultless-form b e).0).most in omega (arith, length-take (length b - 9) (drop 4 b))

-- Bytes are a block without fault exactly if they are that of a count of one digit, one of the three labels and at most 128 data bytes: no other bytes are ever taken or acknowledged.
pub form-exactly : (b : List ℕ) → (block_faults b ≡ []) ↔ ((c l : ℕ) × (x : List ℕ) × Writable c l x × (b ≡ block_bytes c l x))
form-exactly b = (
  λ e. let w = faultless-written b e in (count_of b, label_of b, data_of b, w.0, w.1),
  λ (c, l, x, w, e). subst (λ (y : List ℕ). block_faults y ≡ []) (sym e) (block_read c l x w).faultless,
)
