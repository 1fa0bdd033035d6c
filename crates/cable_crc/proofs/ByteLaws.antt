-- A byte at once: a turn of the register goes over xor, so the eight turns of a byte are a closed form of one byte, which is computed for all 256.
use mathlib.Core.Path.{◌≡◌, refl, sym, ap, ◌∙◌, subst}
use mathlib.Core.Bool.{Bool, true, false, ◌&&◌}
use Prim.Native.Nat.{ℕ, zero, suc, ◌+◌, ◌*◌, ◌/◌, ◌%◌, ◌^◌, ◌≤◌, ◌<◌}
use native.Mathlib.Omega.{arith}
use lib.Dec.{leb, eqb}
use lib.Bits.{bit_xor, xor_zero_r, xor_lt, xor_block, xor_shifted}
use borrow.Author.Tests.{leb-true, leb-false, eqb-true}
use Rattle.meaning.proofs.Bools.{and_left, and_right}
use Rattle.meaning_cable.specs.Crc.{bit_turn, byte_all}
use Rattle.meaning_cable.proofs.CrcLaws.{turns, turn-lt, turn-over, byte-turns}

-- ---- k turns go over xor with what loses no bit

unfoldable doubled : ℕ → ℕ → ℕ
doubled zero v = v
doubled (suc k) v = doubled k (v * 2)

doubled-least : (k v : ℕ) → v ≤ doubled k v
unfolding doubled
doubled-least zero v = omega arith
doubled-least (suc k) v = omega (arith, doubled-least k (v * 2))

turns-over : (k u v : ℕ) → u < 65536 → doubled k v < 65536 → turns k (bit_xor u v) ≡ bit_xor (turns k u) (doubled k v)
unfolding doubled turns
turns-over zero u v h l = refl
turns-over (suc k) u v h l =
    ap (turns k) (turn-over u v h (omega (arith, doubled-least k (v * 2)))) ∙ turns-over k (bit_turn u) (v * 2) (turn-lt u) l

eight-doubled : (v : ℕ) → doubled 8 v ≡ v * 256
unfolding doubled
eight-doubled v = omega arith

-- ---- eight turns of a high byte, computed

abbrev fold : ℕ → ℕ → ℕ
fold k x = bit_xor x (x / k)

-- x doubled, x doubled twice, and 8003h if its ones are odd in number
abbrev closed : ℕ → ℕ
closed x = bit_xor (bit_xor (x * 2) (x * 4)) (fold 2 (fold 4 (fold 16 x)) % 2 * 0x8003)

abbrev all : (ℕ → Bool) → ℕ → Bool
all f zero = true
all f (suc k) = f k && all f k

closed_all : all (λ (x : ℕ). eqb (turns 8 (x * 256)) (closed x)) 256 ≡ true
unfolding turns bit_turn
closed_all = refl

last_or : (f : ℕ → Bool) (n k : ℕ) → f n ≡ true → k < suc n → (k < n → f k ≡ true) → f k ≡ true
last_or f n k e h g = go (leb n k) refl
  where
    go : (t : Bool) → leb n k ≡ t → f k ≡ true
    go true q = let l = leb-true n k q in let s : n ≡ k = omega arith in subst (λ (x : ℕ). f x ≡ true) s e
    go false q = g (leb-false n k q)

each : (f : ℕ → Bool) (n k : ℕ) → all f n ≡ true → k < n → f k ≡ true
each f zero k e h = absurd (omega arith)
each f (suc n) k e h = last_or f n k (and_left (f n) (all f n) e) h (λ l. each f n k (and_right (f n) (all f n) e) l)

turns-closed : (x : ℕ) → x < 256 → turns 8 (x * 256) ≡ closed x
turns-closed x h = eqb-true (turns 8 (x * 256)) (closed x) (each (λ (y : ℕ). eqb (turns 8 (y * 256)) (closed y)) 256 x closed_all h)

-- ---- a byte at once

pub high-byte : (c b : ℕ) → c < 65536 → b < 256 → bit_xor (c / 256) b < 256
high-byte c b h l = xor_lt 8 (c / 256) b (omega arith) l

-- the high byte with the new byte, in closed form, and the low byte moved up
pub byte-is : (c b : ℕ) → c < 65536 → b < 256 → byte_all c b ≡ bit_xor (closed (bit_xor (c / 256) b)) (c % 256 * 256)
byte-is c b h l =
    let x : ℕ = bit_xor (c / 256) b in
    let split : c ≡ c / 256 * 2 ^ 8 + c % 256 = omega arith in
    let none : b * 256 ≡ b * 2 ^ 8 + 0 = omega arith in
    let joined : bit_xor c (b * 256) ≡ bit_xor (x * 256) (c % 256) =
    ap (λ (y : ℕ). bit_xor y (b * 256)) split ∙ (ap (λ (y : ℕ). bit_xor (c / 256 * 2 ^ 8 + c % 256) y) none
    ∙ (xor_block 8 (c / 256) b (c % 256) 0 (omega arith) (omega arith) ∙ (ap (λ (y : ℕ). x * 2 ^ 8 + y) (xor_zero_r (c % 256)) ∙ sym (xor_shifted x 8 (c % 256) (omega arith))))) in
    byte-turns c b h l
    ∙ (ap (turns 8) joined ∙ (turns-over 8 (x * 256) (c % 256) (omega (arith, high-byte c b h l)) (omega (arith, eight-doubled (c % 256)))
    ∙ (ap (λ (y : ℕ). bit_xor y (doubled 8 (c % 256))) (turns-closed x (high-byte c b h l)) ∙ ap (λ (y : ℕ). bit_xor (closed x) y) (eight-doubled (c % 256)))))
