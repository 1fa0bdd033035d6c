-- Digits and the number that they write undo each other, and how large that number is: each law once, over the width.
use mathlib.Core.Path.{◌≡◌, refl, sym, ap, ◌∙◌}
use mathlib.Core.Bool.{true}
use mathlib.Core.List.{List, [], ◌∷◌, ◌++◌, append_assoc, append-nil}
use Prim.Native.Nat.{ℕ, zero, suc, ◌+◌, ◌-◌, ◌*◌, ◌/◌, ◌%◌, ◌^◌, ◌≤◌, ◌<◌}
use native.Mathlib.Nat.{pow-suc, mul-le-mul_right, suc-add, add-suc, zero-add, add-zero}
use native.Mathlib.Omega.{arith}
use lib.Dec.{leb}
use lib.ListN.{length, length-append}
use borrow.Author.Tests.{leb-true, le-leb}
use Rattle.meaning.specs.Digits.{digits, digit, all_digits, number_from, number}
use Rattle.meaning.specs.Lines.{most_seven_bits}
use Rattle.meaning.proofs.Bools.{and_left, and_right, Every}

number_from-snoc : (a : ℕ) (xs : List ℕ) (d : ℕ) → number_from a (xs ++ (d ∷ [])) ≡ number_from a xs * 10 + (d - 48)
number_from-snoc a [] d = refl
number_from-snoc a (x ∷ xs) d = number_from-snoc (a * 10 + (x - 48)) xs d

pub number_digits : (k n : ℕ) → n < 10 ^ k → number (digits k n) ≡ n
number_digits zero n h = omega arith
number_digits (suc k) n h =
    let ih : number (digits k (n / 10)) ≡ n / 10 = number_digits k (n / 10) (omega arith) in
    rw number_from-snoc (omega arith)

digit-bounds : (b : ℕ) → digit b ≡ true → (48 ≤ b) × (b ≤ 57)
digit-bounds b e = (leb-true 48 b (and_left (leb 48 b) (leb b 57) e), leb-true b 57 (and_right (leb 48 b) (leb b 57) e))

digits-snoc : (k m x : ℕ) → 48 ≤ x → x ≤ 57 → digits (suc k) (m * 10 + (x - 48)) ≡ digits k m ++ (x ∷ [])
digits-snoc k m x h g =
    let p : (m * 10 + (x - 48)) / 10 ≡ m = omega arith in
    let q : 48 + (m * 10 + (x - 48)) % 10 ≡ x = omega arith in
    cc

digits_from : (xs : List ℕ) (k m : ℕ) → all_digits xs ≡ true → digits (k + length xs) (number_from m xs) ≡ digits k m ++ xs
digits_from [] k m e = rw (add-zero, append-nil)
digits_from (x ∷ xs) k m e =
    let d : (48 ≤ x) × (x ≤ 57) = digit-bounds x (and_left (digit x) (all_digits xs) e) in
    let ih : digits (suc k + length xs) (number_from (m * 10 + (x - 48)) xs) ≡ digits (suc k) (m * 10 + (x - 48)) ++ xs
    = digits_from xs (suc k) (m * 10 + (x - 48)) (and_right (digit x) (all_digits xs) e) in
    let sn : digits (suc k) (m * 10 + (x - 48)) ≡ digits k m ++ (x ∷ []) = digits-snoc k m x d.0 d.1 in
    ap (λ (n : ℕ). digits n (number_from m (x ∷ xs))) (add-suc k (length xs) ∙ sym (suc-add k (length xs)))
    ∙ (ih ∙ ap (λ (l : List ℕ). l ++ xs) sn ∙ append_assoc (digits k m) (x ∷ []) xs)

pub digits_number : (xs : List ℕ) → all_digits xs ≡ true → digits (length xs) (number xs) ≡ xs
digits_number xs e = rw zero-add at (digits_from xs 0 0 e)

all_append : (xs ys : List ℕ) → all_digits xs ≡ true → all_digits ys ≡ true → all_digits (xs ++ ys) ≡ true
all_append [] ys p q = q
all_append (x ∷ xs) ys p q =
    rw (and_left (digit x) (all_digits xs) p) (all_append xs ys (and_right (digit x) (all_digits xs) p) q)

last-digit : (n : ℕ) → all_digits ((48 + n % 10) ∷ []) ≡ true
last-digit n = rw (le-leb 48 (48 + n % 10) (omega arith), le-leb (48 + n % 10) 57 (omega arith))

pub digits-all : (k n : ℕ) → all_digits (digits k n) ≡ true
digits-all zero n = refl
digits-all (suc k) n = all_append (digits k (n / 10)) ((48 + n % 10) ∷ []) (digits-all k (n / 10)) (last-digit n)

-- a digit is no byte over 7Fh
pub plain-digits : (c : List ℕ) → all_digits c ≡ true → Every (λ b. b ≤ most_seven_bits) c
plain-digits [] e = tt
plain-digits (b ∷ bs) e =
    let d : (48 ≤ b) × (b ≤ 57) = digit-bounds b (and_left (digit b) (all_digits bs) e) in
    (omega (arith, d.1), plain-digits bs (and_right (digit b) (all_digits bs) e))

pub length-digits : (k n : ℕ) → length (digits k n) ≡ k
length-digits zero n = refl
length-digits (suc k) n = rw (length-append, length-digits k (n / 10)) (omega arith)

number-from-lt : (xs : List ℕ) (a : ℕ) → all_digits xs ≡ true → number_from a xs < suc a * 10 ^ length xs
number-from-lt [] a e = omega arith
number-from-lt (x ∷ xs) a e =
    let d : (48 ≤ x) × (x ≤ 57) = digit-bounds x (and_left (digit x) (all_digits xs) e) in
    let ih : number_from (a * 10 + (x - 48)) xs < suc (a * 10 + (x - 48)) * 10 ^ length xs
    = number-from-lt xs (a * 10 + (x - 48)) (and_right (digit x) (all_digits xs) e) in
    let g : suc (a * 10 + (x - 48)) ≤ suc a * 10 = omega arith in
    rw pow-suc (omega (arith, mul-le-mul_right (10 ^ length xs) g))

pub number_lt : (xs : List ℕ) → all_digits xs ≡ true → number xs < 10 ^ length xs
number_lt xs e = omega (arith, number-from-lt xs 0 e)
