-- Blocks: their data joined are the stream (`blocks-join`); a block that was written has no fault and gives back what was written (`block_read`).
use mathlib.Core.Path.{◌≡◌, refl, sym, ap, ◌∙◌}
use mathlib.Core.Bool.{Bool, true, false, cond, ◌&&◌, ◌||◌}
use mathlib.Core.List.{List, [], ◌∷◌, ◌++◌}
use Prim.Native.Nat.{ℕ, zero, suc, ◌+◌, ◌-◌, ◌*◌, ◌/◌, ◌%◌, ◌≤◌, ◌<◌, min}
use native.Mathlib.Omega.{arith}
use native.Mathlib.Numerals.{add-one}
use lib.ListN.{length, take, get_or, length-append, length-take, length-drop}
use lib.Seq.{take-add, take_all, take_at, drop_at, get_or-append-add}
use lib.Dec.{leb, eqb}
use borrow.Author.Tests.{le-leb, lt-leb, leb-true, leb-false, ne_eqb, eq-eqb}
use Rattle.meaning.specs.Digits.{digit}
use Rattle.meaning.specs.Lines.{cr}
use Rattle.meaning.proofs.Bools.{and_both, or_right}
use Rattle.meaning_cable.specs.Crc.{crc}
use Rattle.meaning_cable.specs.Stream.{separator, all_data}
use Rattle.meaning_cable.specs.Blocks.{max_data, through_first, block_count, cut_at, block_data, joined, b02, hex_digit, hex_digits, block_front, block_bytes, max_count}
use Rattle.meaning_cable.specs.Receiving.{count_of, label_of, data_of, front_of, crc_digits, is_hex, hex_value, all_hex, hex_from, length_ok, head_ok, end_ok, form_ok, crc_ok, block_faults}
use Rattle.meaning_cable.proofs.CrcLaws.{crc-lt}

or_left : {a : Bool} (b : Bool) → a ≡ true → a || b ≡ true
or_left b e = rw e

-- ---- the cuts

pub through-most : (x : List ℕ) → through_first x ≤ length x
unfolding through_first
through-most [] = omega arith
through-most (b ∷ x) = go (eqb b separator) (through-most x)
  where
    go : (t : Bool) → through_first x ≤ length x → cond t 1 (suc (through_first x)) ≤ suc (length x)
    go true h = omega arith
    go false h = omega arith

-- Either all data fit one block, or they don't: what count and cuts then are.
pub data Cuts (x : List ℕ) : Type 0 where
  one : length x ≤ 128 → block_count x ≡ 2 → cut_at x 0 ≡ 0 → cut_at x 1 ≡ through_first x → ((i : ℕ) → 2 ≤ i → cut_at x i ≡ length x) → Cuts x
  many : 128 < length x → block_count x ≡ (length x + 127) / 128 → ((i : ℕ) → cut_at x i ≡ 128 * i) → Cuts x

pub cuts : (x : List ℕ) → Cuts x
unfolding block_count cut_at
cuts x = go (leb (length x) 128) refl
  where
    go : (t : Bool) → leb (length x) 128 ≡ t → Cuts x
    go true e = one (leb-true (length x) 128 e) (rw e) (rw e) (rw e) (λ i h. rw (e, ne_eqb i 0 (λ z. omega arith), ne_eqb i 1 (λ z. omega arith)))
    go false e = many (leb-false (length x) 128 e) (rw e) (λ i. rw e)

pub count-least : (x : List ℕ) → 2 ≤ block_count x
count-least x = go (cuts x)
  where
    go : Cuts x → 2 ≤ block_count x
    go (one l n a b c) = omega arith
    go (many l n a) = omega arith

-- a later cut is no earlier
pub cut_on : (x : List ℕ) (i : ℕ) → cut_at x i ≤ cut_at x (i + 1)
cut_on x i = go (cuts x) i
  where
    go : Cuts x → (j : ℕ) → cut_at x j ≤ cut_at x (j + 1)
    go (one l n a b c) zero = omega arith
    go (one l n a b c) (suc zero) = omega (arith, through-most x, b, c 2 (omega arith))
    go (one l n a b c) (suc (suc j)) = omega (arith, c (suc (suc j)) (omega arith), c (suc (suc j) + 1) (omega arith))
    go (many l n a) j = omega (arith, a j, a (j + 1))

-- "up to 128 data bytes"
pub cut_most : (x : List ℕ) (i : ℕ) → cut_at x (i + 1) - cut_at x i ≤ 128
cut_most x i = go (cuts x) i
  where
    go : Cuts x → (j : ℕ) → cut_at x (j + 1) - cut_at x j ≤ 128
    go (one l n a b c) zero = omega (arith, b, through-most x)
    go (one l n a b c) (suc zero) = omega (arith, c 2 (omega arith))
    go (one l n a b c) (suc (suc j)) = omega (arith, c (suc (suc j)) (omega arith), c (suc (suc j) + 1) (omega arith))
    go (many l n a) j = omega (arith, a j, a (j + 1))

pub cut-first : (x : List ℕ) → cut_at x 0 ≡ 0
cut-first x = go (cuts x)
  where
    go : Cuts x → cut_at x 0 ≡ 0
    go (one l n a b c) = a
    go (many l n a) = a 0

-- all data stand before the cut after the last block
pub cut-end : (x : List ℕ) → length x ≤ cut_at x (block_count x)
cut-end x = go (cuts x)
  where
    go : Cuts x → length x ≤ cut_at x (block_count x)
    go (one l n a b c) = omega (arith, c (block_count x) (omega arith))
    go (many l n a) = omega (arith, a (block_count x))

pub data-length : (x : List ℕ) (i : ℕ) → length (block_data x i) ≤ 128
data-length x i = simp length-take (omega (arith, cut_most x i))

-- a 1Ch after y is no later than its place
through_before : (y t : List ℕ) → through_first (y ++ (separator ∷ t)) ≤ length y + 1
unfolding through_first
through_before [] t = omega arith
through_before (b ∷ y) t = go (eqb b separator) (through_before y t)
  where
    go : (k : Bool) → through_first (y ++ (separator ∷ t)) ≤ length y + 1 → cond k 1 (suc (through_first (y ++ (separator ∷ t)))) ≤ suc (length y) + 1
    go true h = omega arith
    go false h = omega arith

through-some : (x : List ℕ) → 1 ≤ length x → 1 ≤ through_first x
unfolding through_first
through-some [] h = h
through-some (b ∷ x) h = go (eqb b separator)
  where
    go : (k : Bool) → 1 ≤ cond k 1 (suc (through_first x))
    go true = omega arith
    go false = omega arith

-- "no empty block" (E3b): if some data stand before a 1Ch and some after it, each block has some
pub data-some : (y t : List ℕ) → 1 ≤ length t → (i : ℕ) → i < block_count (y ++ (separator ∷ t)) → 1 ≤ length (block_data (y ++ (separator ∷ t)) i)
data-some y t h i l = go (cuts (y ++ (separator ∷ t))) i l
  where
    long : length (y ++ (separator ∷ t)) ≡ length y + suc (length t)
    long = length-append y (separator ∷ t)

    size_of : (j : ℕ) → length (block_data (y ++ (separator ∷ t)) j)
        ≡ min (cut_at (y ++ (separator ∷ t)) (j + 1) - cut_at (y ++ (separator ∷ t)) j) (length (y ++ (separator ∷ t)) - cut_at (y ++ (separator ∷ t)) j)
    size_of j = simp (length-take, length-drop)

    go : Cuts (y ++ (separator ∷ t)) → (j : ℕ) → j < block_count (y ++ (separator ∷ t)) → 1 ≤ length (block_data (y ++ (separator ∷ t)) j)
    go (one m n a b c) zero k = omega (arith, size_of 0, a, b, through-some (y ++ (separator ∷ t)) (omega (arith, long)), through-most (y ++ (separator ∷ t)))
    go (one m n a b c) (suc zero) k = omega (arith, size_of 1, b, c 2 (omega arith), through_before y t, long)
    go (one m n a b c) (suc (suc j)) k = absurd (omega arith)
    go (many m n a) j k = omega (arith, size_of j, a j, a (j + 1), n)

-- ---- the data of the first blocks are the first bytes of the stream

pub take_on : (x : List ℕ) (i : ℕ) → take (cut_at x (i + 1)) x ≡ take (cut_at x i) x ++ block_data x i
take_on x i =
    let e : cut_at x (i + 1) ≡ cut_at x i + (cut_at x (i + 1) - cut_at x i) = omega (arith, cut_on x i) in
    ap (λ (n : ℕ). take n x) e ∙ take-add (cut_at x i) (cut_at x (i + 1) - cut_at x i) x

pub joined-take : (x : List ℕ) (n : ℕ) → joined x n ≡ take (cut_at x n) x
unfolding joined
joined-take x zero = sym (ap (λ (n : ℕ). take n x) (cut-first x))
joined-take x (suc n) =
    ap (λ (y : List ℕ). y ++ block_data x n) (joined-take x n) ∙ (sym (take_on x n) ∙ ap (λ (m : ℕ). take (cut_at x m) x) (add-one n))

-- the data of all blocks are the stream
pub blocks-join : (x : List ℕ) → joined x (block_count x) ≡ x
blocks-join x = joined-take x (block_count x) ∙ take_all (cut_at x (block_count x)) x (cut-end x)

-- ---- hex digits

module _ (d : ℕ) (h : d < 16) where
  hex-is : is_hex (hex_digit d) ≡ true
  hex-is = go (leb d 9) refl
    where
      go : (t : Bool) → leb d 9 ≡ t → is_hex (cond t (48 + d) (65 + (d - 10))) ≡ true
      go true e = let l = leb-true d 9 e in or_left (leb 65 (48 + d) && leb (48 + d) 70) (and_both (le-leb 48 (48 + d) (omega arith)) (le-leb (48 + d) 57 (omega arith)))
      go false e = let l = leb-false d 9 e in or_right (digit (65 + (d - 10))) (and_both (le-leb 65 (65 + (d - 10)) (omega arith)) (le-leb (65 + (d - 10)) 70 (omega arith)))

  hex-value : hex_value (hex_digit d) ≡ d
  hex-value = go (leb d 9) refl
    where
      go : (t : Bool) → leb d 9 ≡ t → hex_value (cond t (48 + d) (65 + (d - 10))) ≡ d
      go true e = let l = leb-true d 9 e in rw (le-leb (48 + d) 57 (omega arith)) (omega arith)
      go false e = let l = leb-false d 9 e in rw (lt-leb (65 + (d - 10)) 57 (omega arith)) (omega arith)

pub hex-all : (n : ℕ) → all_hex (hex_digits n) ≡ true
hex-all n =
    and_both (hex-is (n / 4096 % 16) (omega arith)) (and_both (hex-is (n / 256 % 16) (omega arith)) (and_both (hex-is (n / 16 % 16) (omega arith)) (and_both (hex-is (n % 16) (omega arith)) refl)))

pub hex-back : (n : ℕ) → n < 65536 → hex_from 0 (hex_digits n) ≡ n
hex-back n h =
    let a : n ≡ n / 16 * 16 + n % 16 = omega arith in
    let b : n / 16 ≡ n / 256 * 16 + n / 16 % 16 = omega arith in
    let c : n / 256 ≡ n / 4096 * 16 + n / 256 % 16 = omega arith in
    let d : n / 4096 % 16 ≡ n / 4096 = omega arith in
    rw (hex-value (n / 4096 % 16) (omega arith), hex-value (n / 256 % 16) (omega arith), hex-value (n / 16 % 16) (omega arith), hex-value (n % 16) (omega arith)) (omega arith)

-- ---- the parts of a block whose front is `a` and whose CRC digits are `q`

-- what stands after the front
abbrev pub tail_of : List ℕ → List ℕ
tail_of q = q ++ (cr ∷ [])

module _ (a q : List ℕ) (four : length q ≡ 4) where
  pub parts-length : length (a ++ tail_of q) ≡ length a + 5
  parts-length = length-append a (tail_of q) ∙ omega (arith, length-append q (cr ∷ []))

  cut-is : length (a ++ tail_of q) - 5 ≡ length a
  cut-is = omega (arith, parts-length)

  pub front-is : front_of (a ++ tail_of q) ≡ a
  front-is = take_at a (tail_of q) (length (a ++ tail_of q) - 5) (sym cut-is)

  pub crc-digits-are : crc_digits (a ++ tail_of q) ≡ q
  crc-digits-are = ap (take 4) (drop_at a (tail_of q) (length (a ++ tail_of q) - 5) (sym cut-is)) ∙ take_at q (cr ∷ []) 4 four

  pub end_is : get_or (a ++ tail_of q) (length (a ++ tail_of q) - 1) 0 ≡ cr
  end_is =
      let n : length (a ++ tail_of q) - 1 ≡ length a + (length q + 0) = omega (arith, parts-length) in
      ap (λ (k : ℕ). get_or (a ++ tail_of q) k 0) n ∙ (get_or-append-add a (tail_of q) (length q + 0) 0 ∙ get_or-append-add q (cr ∷ []) 0 0)

-- ---- a block that was written, read

-- What may be written: a count of one digit, a label of the three, at most 128 data bytes.
pub record Writable (count label : ℕ) (x : List ℕ) : Type 0 where
  pub count_fits : count ≤ max_count
  pub label-fits : label ≤ b02
  pub length-fits : length x ≤ max_data
  pub data-only : all_data x ≡ true

module _ (count label : ℕ) (x : List ℕ) (w : Writable count label x) where
  front : List ℕ
  front = block_front count label x

  whole_is : block_bytes count label x ≡ front ++ tail_of (hex_digits (crc front))
  unfolding block_bytes front
  whole_is = refl

  pub written-length : length (block_bytes count label x) ≡ length x + 9
  unfolding front
  written-length = ap length whole_is ∙ (parts-length front (hex_digits (crc front)) refl ∙ omega arith)

  pub count-back : count_of (block_bytes count label x) ≡ count
  unfolding block_bytes
  count-back = omega arith

  pub label-back : label_of (block_bytes count label x) ≡ label
  unfolding block_bytes
  label-back = omega arith

  pub data-back : data_of (block_bytes count label x) ≡ x
  unfolding block_bytes
  data-back = take_at x (tail_of (hex_digits (crc (block_front count label x)))) (length (block_bytes count label x) - 9) (omega (arith, written-length))

  length-ok : length_ok (block_bytes count label x) ≡ true
  length-ok =
      let l = w.length-fits in
      and_both (le-leb 9 (length (block_bytes count label x)) (omega (arith, written-length))) (le-leb (length (block_bytes count label x)) 137 (omega (arith, written-length)))

  head-ok : head_ok (block_bytes count label x) ≡ true
  unfolding block_bytes
  head-ok =
      let c = w.count_fits in
      let l = w.label-fits in
      and_both (and_both (le-leb 48 (48 + count) (omega arith)) (le-leb (48 + count) 57 (omega arith)))
      (and_both (le-leb 48 (48 + label) (omega arith)) (le-leb (48 + label) 50 (omega arith)))

  end-ok : end_ok (block_bytes count label x) ≡ true
  end-ok =
      let q : List ℕ = hex_digits (crc front) in
      let digits-ok : all_hex (crc_digits (front ++ tail_of q)) ≡ true = ap all_hex (crc-digits-are front q refl) ∙ hex-all (crc front) in
      let last_ok : eqb (get_or (front ++ tail_of q) (length (front ++ tail_of q) - 1) 0) cr ≡ true = eq-eqb _ cr (end_is front q refl) in
      ap end_ok whole_is ∙ and_both digits-ok last_ok

  pub form-written : form_ok (block_bytes count label x) ≡ true
  unfolding form_ok
  form-written = and_both length-ok (and_both head-ok (and_both (ap all_data data-back ∙ w.data-only) end-ok))

  pub crc-written : crc_ok (block_bytes count label x) ≡ true
  unfolding crc_ok
  crc-written =
      rw (whole_is, crc-digits-are front (hex_digits (crc front)) refl, front-is front (hex_digits (crc front)) refl)
      (eq-eqb (hex_from 0 (hex_digits (crc front))) (crc front) (hex-back (crc front) (crc-lt front 0 (omega arith))))

  pub no-faults : block_faults (block_bytes count label x) ≡ []
  unfolding block_faults
  no-faults = rw (form-written, crc-written)

-- What reading a block back says.
pub record ReadBack (count label : ℕ) (x : List ℕ) : Type 0 where
  pub faultless : block_faults (block_bytes count label x) ≡ []
  pub count-is : count_of (block_bytes count label x) ≡ count
  pub label-is : label_of (block_bytes count label x) ≡ label
  pub data_is : data_of (block_bytes count label x) ≡ x

-- a block that was written has no fault and gives back its count, its label and its data
pub block_read : (count label : ℕ) (x : List ℕ) → Writable count label x → ReadBack count label x
block_read count label x w = record {
  faultless = no-faults count label x w;
  count-is = count-back count label x w;
  label-is = label-back count label x w;
  data_is = data-back count label x w;
}
